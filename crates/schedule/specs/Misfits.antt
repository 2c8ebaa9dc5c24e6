-- The first word of a line that does not fit its place.
use Rattle.std.specs.Prelude.{drop, ◌≡◌, ℕ, ◌+◌, ◌==◌, Bool, true, false, ◌||◌, if◌then◌else◌, List, [], ◌∷◌, Some, None, Err, Option}
use Rattle.std.specs.Option.{option_map}
use Rattle.std.specs.Result.{result_err}
use Rattle.orders.specs.declared.order.Order.{Order}
use Rattle.schedule.specs.declared.complaint.Cause.{Cause}
use Rattle.schedule.specs.declared.complaint.Cause.TheVariants.{MissingWord, UnknownWord, NotANumber, NumberTooLarge, WordTooMany, EarlierTick, NoSlot, NoStart, NoRoom}
use Rattle.schedule.specs.declared.misfit.Misfit.{Misfit}
use Rattle.schedule.specs.declared.place.Place.{Place}
use Rattle.schedule.specs.Cuts.{lines_in, line_words}
use Rattle.schedule.specs.Maps.{has_words}
use Rattle.schedule.specs.Records.{start_in, order_in}
use Rattle.schedule.specs.Texts.{reading_of}
use Rattle.schedule.specs.Places.{fault, start_places, order_places, second_kind}

-- what a misfit says, wherever its word lies
pub record Told : Type 0 where
  pub word : Option (List ℕ)
  pub place : Place
  pub cause : Cause

abbrev pub seen : Misfit → Told
seen m = record { word = option_map (λ w. w.now) m.word; place = m.place; cause = m.cause }

abbrev pub first_word : List (List ℕ) → Option (List ℕ)
first_word [] = None
first_word (w ∷ ws) = Some w

-- a fault of the word at this place, or what comes of the later ones
abbrev pub told_or : Option (List ℕ) → Place → Option Told → Option Cause → Option Told
told_or w p more (Some e) = Some record { word = w; place = p; cause = e }
told_or w p more None = more

unfoldable pub first_misfit : List Place → List (List ℕ) → Option Told
first_misfit [] ws = None
first_misfit (p ∷ ps) ws =
    told_or (first_word ws) p (first_misfit ps (drop 1 ws)) (fault p (first_word ws))

-- on a line of these words, once a start was read or before
abbrev pub line_misfit : Bool → List (List ℕ) → Option Told
line_misfit true ws = first_misfit (order_places (second_kind ws)) ws
line_misfit false ws = first_misfit start_places ws

-- on line m of these lines, where line n is the last one before them
unfoldable pub misfit_at : ℕ → Bool → ℕ → List (List ℕ) → Option Told
misfit_at m started n [] = None
misfit_at m started n (l ∷ ls) =
    if n + 1 == m then line_misfit started (line_words l)
    else misfit_at m (started || has_words (line_words l)) (n + 1) ls

abbrev pub cause_told : Option Told → Option Cause
cause_told = option_map (λ m. m.cause)

-- a line of words that is not taken has a misfit of just that cause, and one that is taken has none
abbrev pub MisfitsExplain : Type 0
MisfitsExplain =
    (w : List ℕ) (ws : List (List ℕ))
    → (result_err (start_in (w ∷ ws)) ≡ cause_told (line_misfit false (w ∷ ws)))
    × (result_err (order_in (w ∷ ws)) ≡ cause_told (line_misfit true (w ∷ ws)))

-- whether a complaint is about a word of its line
abbrev pub is_about_word : Cause → Bool
is_about_word MissingWord = true
is_about_word UnknownWord = true
is_about_word NotANumber = true
is_about_word NumberTooLarge = true
is_about_word WordTooMany = true
is_about_word EarlierTick = false
is_about_word NoSlot = false
is_about_word NoStart = false
is_about_word NoRoom = false

-- the complaint about a word of a text is that of the misfit on the complaint's line
abbrev pub ComplaintsExplained : Type 0
ComplaintsExplained =
    (text : List ℕ) (slots : List Order) (e : Cause) →
    (reading_of text slots).answer ≡ Err e → is_about_word e ≡ true
    → cause_told (misfit_at (reading_of text slots).line false 0 (lines_in text)) ≡ Some e
