-- A misfit in words.
use Rattle.std.specs.Prelude.{ℕ, List, ◌++◌, take, Some, None, Option, codes}
use Rattle.schedule.specs.declared.place.Place.{Place}
use Rattle.schedule.specs.declared.place.Place.TheVariants.{GroupKind, Parties, Pace, Tmin, Tmax, CapWord, Cap, Tick, OrderKind, Party, Leg, End}
use Rattle.schedule.specs.Misfits.{Told}

abbrev pub place_words : Place → List ℕ
place_words GroupKind = codes "closed, expanding or dynamic"
place_words Parties = codes "the number of parties, up to 255,"
place_words Pace = codes "halving or two-phase"
place_words Tmin = codes "tmin, a number up to 4294967295,"
place_words Tmax = codes "tmax, a number up to 4294967295,"
place_words CapWord = codes "the word cap"
place_words Cap = codes "the cap, a number up to 255,"
place_words Tick = codes "a tick, a number up to 4294967295,"
place_words OrderKind = codes "deliver, lose, crash, join, leave or wait"
place_words Party = codes "a party, a number up to 255,"
place_words Leg = codes "a leg, a number up to 255,"
place_words End = codes "the end of the line"

-- of a long word its front is told
abbrev pub met_words : Option (List ℕ) → List ℕ
met_words None = codes "the line ends where "
met_words (Some w) = codes "met '" ++ take 40 w ++ codes "' where "

unfoldable pub misfit_line : Told → List ℕ
misfit_line m = met_words m.word ++ place_words m.place ++ codes " is due\n"
