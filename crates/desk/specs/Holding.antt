-- What is held of a line.
use Rattle.std.specs.Prelude.{ℕ, List, take}
use Rattle.desk.specs.declared.line.Line.{Line}

-- the first 81 bytes tell whether a line is too long, and what it says where it is not
abbrev pub kept : List ℕ → List ℕ
kept bs = take 81 bs

abbrev pub held : Line → List ℕ
held l = take l.len l.bytes
