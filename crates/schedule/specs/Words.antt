-- What a word reads as.
use Rattle.std.specs.Prelude.{ℕ, Bool, if◌then◌else◌, List, Ok, Err, codes, Result, nat_le}
use Rattle.std.specs.Str.{all_ascii_digits, bytes_eq}
use Rattle.text.specs.Numeral.{read_on}
use Rattle.protocol.specs.declared.kind.GroupKind.{GroupKind}
use Rattle.protocol.specs.declared.kind.GroupKind.TheVariants.{Closed, Expanding, Dynamic}
use Rattle.orders.specs.declared.order.OrderKind.{OrderKind}
use Rattle.orders.specs.declared.order.OrderKind.TheVariants.{Deliver, Lose, Crash, Join, Leave, Wait}
use Rattle.orders.specs.declared.start.PaceKind.{PaceKind}
use Rattle.orders.specs.declared.start.PaceKind.TheVariants.{Halving, TwoPhase}
use Rattle.schedule.specs.declared.complaint.Cause.{Cause}
use Rattle.schedule.specs.declared.complaint.Cause.TheVariants.{UnknownWord, NotANumber, NumberTooLarge}

-- whether a word is the name of something
unfoldable pub is_name : List ℕ → List ℕ → Bool
is_name w name = bytes_eq w name

-- a number of digits alone, and max at most
unfoldable pub number_word : ℕ → List ℕ → Result ℕ Cause
number_word max w =
    if all_ascii_digits w
    then (if nat_le (read_on 0 w) max then Ok (read_on 0 w) else Err NumberTooLarge)
    else Err NotANumber

unfoldable pub group_word : List ℕ → Result GroupKind Cause
group_word w =
    if is_name w (codes "closed") then Ok Closed else
    (if is_name w (codes "expanding") then Ok Expanding else
    (if is_name w (codes "dynamic") then Ok Dynamic else Err UnknownWord))

unfoldable pub pace_word : List ℕ → Result PaceKind Cause
pace_word w =
    if is_name w (codes "halving") then Ok Halving else
    (if is_name w (codes "two-phase") then Ok TwoPhase else Err UnknownWord)

unfoldable pub order_word : List ℕ → Result OrderKind Cause
order_word w =
    if is_name w (codes "deliver") then Ok Deliver else
    (if is_name w (codes "lose") then Ok Lose else
    (if is_name w (codes "crash") then Ok Crash else
    (if is_name w (codes "join") then Ok Join else
    (if is_name w (codes "leave") then Ok Leave else
    (if is_name w (codes "wait") then Ok Wait else Err UnknownWord)))))

-- a word that has to be just this one
unfoldable pub only : List ℕ → List ℕ → Result (Unit {0}) Cause
only name w = if is_name w name then Ok tt else Err UnknownWord
