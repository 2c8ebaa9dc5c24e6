-- The notice lines, each ended by a line feed.
use Rattle.std.specs.Prelude.{ℕ, zero, suc, Bool, true, false, List, [], ◌++◌, Ok, Err, Result, codes, decimal}
use Rattle.player.specs.declared.notices.PlayedFile.{PlayedFile}
use Rattle.player.specs.declared.notices.RefusedFile.{RefusedFile}
use Rattle.player.specs.Playing.{Stop, stop_told}

-- of a file that is not played: the byte place, and the number of the question
unfoldable pub refused_line : ℕ → ℕ → List ℕ
refused_line byte n =
    codes "refused byte " ++ decimal byte ++ codes " number " ++ decimal n ++ codes "\n"

unfoldable pub cut_line : Bool → List ℕ
cut_line true = codes "<!-- cut -->\n"
cut_line false = []

-- the order at which the playing stopped, and the number of the group's refusal
unfoldable pub stopped_line : ℕ → ℕ → List ℕ
stopped_line order n =
    codes "<!-- refused order " ++ decimal order ++ codes " number " ++ decimal n
    ++ codes " -->\n"

-- no line where the playing came to its end
abbrev pub line_of : (number : ℕ) → (order : ℕ) → List ℕ
line_of zero order = []
line_of (suc n) order = stopped_line order (suc n)

abbrev pub stop_line : Stop → List ℕ
stop_line x = line_of x.number x.order

abbrev pub notice_lines : Result PlayedFile RefusedFile → List ℕ
notice_lines (Ok x) = cut_line x.cut ++ stop_line (stop_told x.end)
notice_lines (Err x) = refused_line x.byte x.number
