-- The options of the five line tools, as plain values: the job of each tool, and the view of the Rust type.
use Rattle.std.specs.Prelude.{ℕ, List, Bool, true, false, Option, slice_index, slice_index_or}
use Rattle.ptlangs.specs.CutLists.{is_selected}
use Rattle.ptlangs.specs.declared.jobs.CommJob.{CommJob}
use Rattle.ptlangs.specs.declared.jobs.CutJob.{CutJob}
use Rattle.ptlangs.specs.declared.jobs.JoinJob.{JoinJob}
use Rattle.ptlangs.specs.declared.jobs.PasteJob.{PasteJob}
use Rattle.ptlangs.specs.declared.jobs.Show.{Show}
use Rattle.ptlangs.specs.declared.jobs.UniqJob.{UniqJob}
use Rattle.ptlangs.specs.declared.outlist.OutField.{OutField}

-- the line terminator: NUL with `-z`, else newline
abbrev pub terminator : Bool → ℕ
terminator true = 0
terminator false = 10

-- the options of `cut`
pub record Cut : Type 0 where
  -- fields are selected, and not bytes
  pub fields : Bool
  -- the byte or the field with this number, counted from 1, is selected
  pub selected : ℕ → Bool
  pub delimiter : ℕ
  -- a line without the delimiter is dropped
  pub only : Bool
  -- the line terminator
  pub terminator : ℕ

-- the view of a job of the code
abbrev pub cut_job : {A : Type 0} → CutJob A → Cut
cut_job job = record {
  fields = job.fields;
  selected = is_selected job.list;
  delimiter = job.delim;
  only = job.only;
  terminator = terminator job.zero;
}

-- the options of `paste`
pub record Paste : Type 0 where
  -- the lines of each file are joined into one line (`-s`)
  pub serial : Bool
  -- repeated as often as needed; `None` is the empty string
  pub delimiters : List (Option ℕ)
  -- the line terminator
  pub terminator : ℕ

-- the view of a job of the code
abbrev pub paste_job : {A : Type 0} → PasteJob A → Paste
paste_job job = record { serial = job.serial; delimiters = job.delims; terminator = terminator job.zero }

-- the options of `uniq`
pub record Uniq : Type 0 where
  pub show : Show
  -- the number of fields, and then of bytes, at the start of a line that are ignored in comparisons
  pub fields : ℕ
  pub chars : ℕ
  -- the line terminator
  pub terminator : ℕ

-- the view of a job of the code
abbrev pub uniq_job : UniqJob → Uniq
uniq_job job = record { show = job.show; fields = job.fields; chars = job.chars; terminator = terminator job.zero }

-- the options of `comm`
pub record Comm : Type 0 where
  -- the columns that are suppressed
  pub hide1 : Bool
  pub hide2 : Bool
  pub hide3 : Bool
  -- the line terminator
  pub terminator : ℕ
  -- the lines are in descending order
  pub descending : Bool

-- the view of a job of the code
abbrev pub comm_job : CommJob → Comm
comm_job job = record {
  hide1 = slice_index_or job.hide 0 false;
  hide2 = slice_index_or job.hide 1 false;
  hide3 = slice_index_or job.hide 2 false;
  terminator = terminator job.zero;
  descending = job.descending;
}

-- the options of `join`
pub record Join : Type 0 where
  -- pairs of lines are written
  pub pairs : Bool
  -- unpairable lines of the file are written
  pub unpaired1 : Bool
  pub unpaired2 : Bool
  -- the text for an empty field that the output list names
  pub empty : List ℕ
  -- the fields that are written; `None` for the join field and then the other fields of each line
  pub list : Option (List OutField)
  -- the byte between fields; `None` for runs of blanks
  pub separator : Option ℕ
  -- the number of the join field in each file, counted from 1
  pub field1 : ℕ
  pub field2 : ℕ
  -- the line terminator
  pub terminator : ℕ
  -- the lines are in descending order of their join fields
  pub descending : Bool

-- the view of a job of the code
abbrev pub join_job : {A : Type 0} → JoinJob A → Join
join_job job = record {
  pairs = job.pairs;
  unpaired1 = slice_index_or job.unpaired 0 false;
  unpaired2 = slice_index_or job.unpaired 1 false;
  empty = job.empty.items;
  list = job.list;
  separator = job.sep;
  field1 = slice_index job.field 0;
  field2 = slice_index job.field 1;
  terminator = terminator job.zero;
  descending = job.descending;
}
