-- The places of the words on a line, and what is wrong with a word at its place.
use Rattle.std.specs.Prelude.{drop, ℕ, List, [], ◌∷◌, Some, None, Ok, Err, Option, Result, codes}
use Rattle.std.specs.Result.{result_err}
use Rattle.orders.specs.declared.order.OrderKind.{OrderKind as OrderName}
use Rattle.orders.specs.declared.order.OrderKind.TheVariants.{Deliver, Lose, Crash, Join, Leave, Wait}
use Rattle.schedule.specs.declared.complaint.Cause.{Cause}
use Rattle.schedule.specs.declared.complaint.Cause.TheVariants.{MissingWord, WordTooMany}
use Rattle.schedule.specs.declared.place.Place.{Place}
use Rattle.schedule.specs.declared.place.Place.TheVariants.{GroupKind, Parties, Pace, Tmin, Tmax, CapWord, Cap, Tick, OrderKind, Party, Leg, End}
use Rattle.schedule.specs.Records.{next_word}
use Rattle.schedule.specs.Words.{number_word, group_word, pace_word, order_word, only}

-- where the line ends at a place
abbrev pub lacking : Place → Option Cause
lacking GroupKind = Some MissingWord
lacking Parties = Some MissingWord
lacking Pace = Some MissingWord
lacking Tmin = Some MissingWord
lacking Tmax = Some MissingWord
lacking CapWord = Some MissingWord
lacking Cap = Some MissingWord
lacking Tick = Some MissingWord
lacking OrderKind = Some MissingWord
lacking Party = Some MissingWord
lacking Leg = Some MissingWord
lacking End = None

-- where it has the word w there
abbrev pub met : Place → List ℕ → Option Cause
met GroupKind w = result_err (group_word w)
met Parties w = result_err (number_word 255 w)
met Pace w = result_err (pace_word w)
met Tmin w = result_err (number_word 4294967295 w)
met Tmax w = result_err (number_word 4294967295 w)
met CapWord w = result_err (only (codes "cap") w)
met Cap w = result_err (number_word 255 w)
met Tick w = result_err (number_word 4294967295 w)
met OrderKind w = result_err (order_word w)
met Party w = result_err (number_word 255 w)
met Leg w = result_err (number_word 255 w)
met End w = Some WordTooMany

abbrev pub fault : Place → Option (List ℕ) → Option Cause
fault p None = lacking p
fault p (Some w) = met p w

abbrev pub start_places : List Place
start_places = GroupKind ∷ Parties ∷ Pace ∷ Tmin ∷ Tmax ∷ CapWord ∷ Cap ∷ End ∷ []

-- the kind that the second word names
abbrev pub second_kind : List (List ℕ) → Result OrderName Cause
second_kind ws = next_word order_word (drop 1 ws)

-- those behind an order's kind
abbrev pub kind_places : OrderName → List Place
kind_places Deliver = Party ∷ Leg ∷ End ∷ []
kind_places Lose = Party ∷ Leg ∷ End ∷ []
kind_places Crash = Party ∷ End ∷ []
kind_places Join = Party ∷ End ∷ []
kind_places Leave = Party ∷ End ∷ []
kind_places Wait = End ∷ []

abbrev pub order_places : Result OrderName Cause → List Place
order_places (Ok kind) = Tick ∷ OrderKind ∷ kind_places kind
order_places (Err e) = Tick ∷ OrderKind ∷ []
