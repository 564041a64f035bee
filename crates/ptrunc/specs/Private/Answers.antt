-- The exit status of an answer.
use Rattle.std.specs.Prelude.{◌≡◌, ◌⊎◌, ℕ, true, false, Bool, Option, Some, None}

-- The exit status of a run, unless one of these says that memory ran out.
abbrev pub ExitPost : ℕ → Bool → Bool → Bool → Bool → Option ℕ → Type 0
ExitPost status out_of_memory denied out_failed messages_failed (Some exit) =
    (exit ≡ status) × (out_of_memory ≡ false) × (denied ≡ false) × (out_failed ≡ false) × (messages_failed ≡ false)
ExitPost status out_of_memory denied out_failed messages_failed None =
    (out_of_memory ≡ true) ⊎ ((denied ≡ true) ⊎ ((out_failed ≡ true) ⊎ (messages_failed ≡ true)))
