-- The model of `LineReader`: a source with a block of buffered input.
use Rattle.std.specs.Prelude.{◌≡◌, ℕ, Bool, true, false, List, [], Option, None}
use Rattle.std.specs.Prelude.{slice_index_or}
use Rattle.std.specs.Io.KnownBytes.{prepend_known, IsAtEnd}
use Rattle.ptlines.specs.Sources.{SourceState}
use Rattle.ptlines.specs.declared.store.LineFault.{LineFault}

-- the bytes buffered in the block, the bytes that the source has left (`None` if unknown), whether the end of input was
-- reached, whether a read has failed, how many bytes were pulled from the source, the fault that was reported, whether
-- the file could not be opened, and the byte that ends a line
pub record Reader : Type 0 where
  pub buffered : List ℕ
  pub left : Option (List ℕ)
  pub eof : Bool
  pub failed : Bool
  pub pulled : ℕ
  pub fault : Option LineFault
  pub refused : Bool
  pub terminator : ℕ

-- a reader with this source and these fields
abbrev pub reader_of : SourceState → List ℕ → ℕ → Option LineFault → Bool → ℕ → Reader
reader_of source buffered pulled fault refused terminator = record {
  buffered = buffered;
  left = source.left;
  eof = source.eof;
  failed = source.failed;
  pulled = pulled;
  fault = fault;
  refused = refused;
  terminator = terminator;
}

-- a reader before its first read; lines end with newline
abbrev pub new_reader : SourceState → Bool → Reader
new_reader source refused = reader_of source [] 0 None refused 10

-- the bytes not yet consumed: the buffered ones, followed by those that the source has left
abbrev pub remaining_bytes : Reader → Option (List ℕ)
remaining_bytes r = prepend_known r.buffered r.left

-- the end of input was reached, and all bytes were consumed
pub record IsDone (r : Reader) : Type 0 where
  pub eof : r.eof ≡ true
  pub buffered : r.buffered ≡ []
  pub left : IsAtEnd r.left

-- The value of an index without a reader.
abbrev pub no_reader : Reader
no_reader =
    record {
      buffered = [];
      left = None;
      eof = false;
      failed = false;
      pulled = 0;
      fault = None;
      refused = true;
      terminator = 10;
    }

-- The reader at an index.
abbrev pub reader_at : List Reader → ℕ → Reader
reader_at readers index = slice_index_or readers index no_reader
