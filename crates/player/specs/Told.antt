-- What is printed of a file, by what came of playing it.
use Rattle.std.specs.Prelude.{ℕ, List, ◌++◌, Ok, Err, Result}
use Rattle.protocol.specs.declared.happening.Happening.{Happening}
use Rattle.graphml.specs.Lent.{Lent}
use Rattle.player.specs.declared.fault.FileFault.{FileFault}
use Rattle.player.specs.declared.program.Ran.{Ran}
use Rattle.player.specs.Playing.{stop_told}
use Rattle.player.specs.Notices.{refused_line, cut_line, stop_line}
use Rattle.player.specs.Program.{Outcome}
use Rattle.player.specs.Faults.{file_byte, file_number}

abbrev pub bytes_told : Result Ran FileFault → ℕ
bytes_told (Ok x) = x.file_bytes
bytes_told (Err f) = 0

abbrev pub lines_told : Result Ran FileFault → List ℕ
lines_told (Ok x) = cut_line x.told.cut ++ stop_line (stop_told x.told.end)
lines_told (Err f) = refused_line (file_byte f) (file_number f)

-- what came of a file, by the answer
abbrev pub outcome_of : Lent Happening → Lent ℕ → Result Ran FileFault → Outcome
outcome_of log out answer =
    record { log = log; out = out; bytes = bytes_told answer; lines = lines_told answer }
