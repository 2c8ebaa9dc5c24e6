-- A line under construction, by its text.
use Rattle.std.specs.Prelude.{◌≡◌, ℕ, ◌+◌, ◌-◌, if◌then◌else◌, List, ◌++◌, length, replicate, nat_le}
use Rattle.text.specs.declared.line_bytes.LineBytes.{LineBytes}

-- the text with more after it, or as it was where that passes 128 bytes
unfoldable pub line_with : List ℕ → List ℕ → List ℕ
line_with t more = if nat_le (length t + length more) 128 then t ++ more else t

-- the text with zeros after it, 128 bytes in all
abbrev pub padded_text : List ℕ → List ℕ
padded_text t = t ++ replicate (128 - length t) 0

-- a text that is handed out as 128 bytes, with zeros behind it, and its length
abbrev pub AnsweredAs : List ℕ → LineBytes → Type 0
AnsweredAs t answer = (answer.bytes ≡ padded_text t) × (answer.len ≡ length t)
