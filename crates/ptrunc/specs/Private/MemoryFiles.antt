-- The model of files in memory.
use Rattle.std.specs.Prelude.{Some, map, option_map}
use Rattle.ptfiles.specs.Calls.Bytes.{bytes_state}
use Rattle.ptfiles.specs.Files.{FilesState}
use Rattle.ptrun.specs.Files.{at}
use Rattle.ptrunc.specs.Inputs.{files_view}
use Rattle.ptrunc.specs.Private.Rooms.{kept_state}
use Rattle.ptrunc.specs.declared.files.MemoryFiles.{MemoryFiles}

abbrev pub memory_state : {A : Type 0} → MemoryFiles A → FilesState
memory_state s = record {
  opened = s.opens.names;
  inputs = map (option_map bytes_state) s.opens.results;
  created = s.creates.names;
  outputs = map (option_map kept_state) s.creates.results;
  content = λ count name. Some (at (files_view s.files.now) count);
}
