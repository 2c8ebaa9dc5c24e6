-- Which lines of a text hold its records.
use Rattle.std.specs.Prelude.{◌≡◌, ℕ, ◌+◌, ◌-◌, Bool, true, false, if◌then◌else◌, List, [], ◌∷◌, Some, Ok, map, drop, slice_index_or}
use Rattle.orders.specs.declared.order.Order.{Order}
use Rattle.orders.specs.declared.start.Start.{Start}
use Rattle.schedule.specs.Cuts.{lines_in, line_words}
use Rattle.schedule.specs.Records.{order_in}
use Rattle.schedule.specs.Texts.{reading_of}

abbrev pub has_words : List (List ℕ) → Bool
has_words [] = false
has_words (w ∷ ws) = true

-- the numbers of the lines with words, where line n is the last one before these
unfoldable pub worded : ℕ → List (List ℕ) → List ℕ
worded n [] = []
worded n (l ∷ ls) =
    if has_words (line_words l) then ((n + 1) ∷ worded (n + 1) ls) else worded (n + 1) ls

-- of what is left of a text behind line n
abbrev pub all_lines_behind : ℕ → List ℕ → List ℕ
all_lines_behind n text = worded n (lines_in text)

abbrev pub record_lines : List ℕ → List ℕ
record_lines text = all_lines_behind 0 text

-- the words of line m, the first line being line 1
abbrev pub words_at : List ℕ → ℕ → List (List ℕ)
words_at text m = line_words (slice_index_or (lines_in text) (m - 1) [])

-- behind the start's line, they are the lines of the orders, one for each, in the orders' own order
abbrev pub MapsOrders : Type 0
MapsOrders =
    (text : List ℕ) (slots : List Order) (s : Start) → (reading_of text slots).answer ≡ Ok s
    → map (λ m. order_in (words_at text m)) (drop 1 (record_lines text))
    ≡ map (λ o. Ok (Some o)) (reading_of text slots).items
