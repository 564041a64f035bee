-- The output of `tr` for the rest of a text, which depends on the last byte of the output so far. Also the set of the
-- bytes that a pass deletes or squeezes (`IsFilterSet`), and a lemma for the ghost fields that state it.
use Rattle.std.specs.Prelude.{◌≡◌, ◌<◌, ℕ, List, Bool, false, Option, None, Some, slice_index_or}
use Rattle.std.proofs.Props.{props}
use Rattle.ptlangs.specs.TrPlan.{ByteMap}
use Rattle.memchr.specs.Find.{is_byte}
use Rattle.ptflow.specs.declared.tools.tr.FilterSet.{FilterSet}
use Rattle.ptflow.specs.declared.tools.tr.FilterSet.TheVariants.{Empty, Byte, Bytes}
use Rattle.ptflow.specs.TrOutput.{squeeze_after, squeeze, translation}
use Rattle.ptflow.specs.Private.Vectors.ByteSets.{IsSetOf}

-- the bytes that are kept, where `last` is the byte before them, if there is one
abbrev pub squeeze_from : (ℕ → Bool) → Option ℕ → List ℕ → List ℕ
squeeze_from squeezed None bytes = squeeze squeezed bytes
squeeze_from squeezed (Some last) bytes = squeeze_after squeezed last bytes

-- the output for the rest of a text, where `last` is the last byte of the output so far, if there is one
abbrev pub tr_from : ByteMap → Option ℕ → List ℕ → List ℕ
tr_from m last rest = squeeze_from m.squeezes last (translation m rest)

-- the set of the bytes whose flag is set
abbrev pub IsFilterSet : FilterSet → List Bool → Type 0
IsFilterSet Empty flags = (b : ℕ) → slice_index_or flags b false ≡ false
IsFilterSet (Byte one) flags = (b : ℕ) → b < 256 → is_byte one.byte b ≡ slice_index_or flags b false
IsFilterSet (Bytes set) flags = IsSetOf set flags

-- two proofs of `IsFilterSet` are equal, as a ghost field requires
pub IsFilterSet-prop : (set : FilterSet) (flags : List Bool) → IsProp (IsFilterSet set flags)
IsFilterSet-prop Empty flags = Prim.hlevel props
IsFilterSet-prop (Byte one) flags = Prim.hlevel props
IsFilterSet-prop (Bytes set) flags = Prim.hlevel props
