-- Texts and complaints worked out by hand.
use Rattle.std.specs.Prelude.{◌≡◌, ℕ, List, [], ◌∷◌, ◌++◌, Ok, Err, Result, codes}
use Rattle.protocol.specs.declared.kind.GroupKind.TheVariants.{Closed, Expanding, Dynamic}
use Rattle.orders.specs.declared.order.Order.{Order}
use Rattle.orders.specs.declared.order.OrderKind.TheVariants.{Deliver, Lose, Crash, Join, Leave, Wait}
use Rattle.orders.specs.declared.start.PaceKind.TheVariants.{Halving, TwoPhase}
use Rattle.schedule.specs.declared.complaint.Complaint.{Complaint}
use Rattle.schedule.specs.Composing.{compose_answer}
use Rattle.schedule.specs.Notices.{notice_line}
use Rattle.schedule.specs.Texts.{reading_end, reading_of}

-- a dynamic group, and an order of each kind
abbrev pub each_kind_text : List ℕ
each_kind_text =
    codes "# who comes and goes\n"
    ++ codes "dynamic 3 halving 2 9 cap 64\n"
    ++ codes "\n"
    ++ codes "0 join 1\n"
    ++ codes "2 deliver 1 3 # its first beat\n"
    ++ codes "2\tlose 2 1\r\n"
    ++ codes "10 leave 1\n"
    ++ codes "10 crash 0\n"
    ++ codes "20 wait"

abbrev pub each_kind_orders : List Order
each_kind_orders =
    record { kind = Join; party = 1; leg = 0; tick = 0 }
    ∷ record { kind = Deliver; party = 1; leg = 3; tick = 2 }
    ∷ record { kind = Lose; party = 2; leg = 1; tick = 2 }
    ∷ record { kind = Leave; party = 1; leg = 0; tick = 10 }
    ∷ record { kind = Crash; party = 0; leg = 0; tick = 10 }
    ∷ record { kind = Wait; party = 0; leg = 0; tick = 20 }
    ∷ []

-- what is told of a complaint
abbrev pub complaint_line : Result ℕ Complaint → List ℕ
complaint_line (Ok size) = []
complaint_line (Err c) = notice_line c

-- a text gives that line, where there are two slots for its orders and 23 bytes for the file, as a
-- start and one order have
abbrev pub Tells : List ℕ → List ℕ → Type 0
Tells text line =
    (a b : Order) → complaint_line (compose_answer (reading_of text (a ∷ b ∷ [])) 23) ≡ line

abbrev pub closed_start : List ℕ
closed_start = codes "closed 1 two-phase 1 10 cap 64\n"

pub record TextsByHand : Type 0 where
  pub each_kind_read :
      (a b c d e f : Order) → reading_of each_kind_text (a ∷ b ∷ c ∷ d ∷ e ∷ f ∷ [])
      ≡ reading_end
      (Ok record { kind = Dynamic; parties = 3; tmin = 2; tmax = 9; pace = Halving; cap = 64 })
      9 each_kind_orders []
  pub closed_read :
      reading_of closed_start []
      ≡ reading_end
      (Ok record { kind = Closed; parties = 1; tmin = 1; tmax = 10; pace = TwoPhase; cap = 64 })
      1 [] []
  pub expanding_read :
      reading_of (codes "expanding 7 halving 3 4 cap 5") []
      ≡ reading_end
      (Ok record { kind = Expanding; parties = 7; tmin = 3; tmax = 4; pace = Halving; cap = 5 })
      1 [] []
  pub no_start :
      Tells (codes "# nothing\n")
      (codes "refused line 2 number 15: no start\n")
  pub missing_word :
      Tells (codes "closed 2 halving 1 10 cap\n")
      (codes "refused line 1 number 15: a word is missing\n")
  pub word_too_many :
      Tells (closed_start ++ codes "4 wait 0\n")
      (codes "refused line 2 number 15: a word too many\n")
  pub unknown_word :
      Tells (codes "open 2 halving 1 10 cap 64\n")
      (codes "refused line 1 number 16: a word is not known here\n")
  pub not_a_number :
      Tells (closed_start ++ codes "x wait\n")
      (codes "refused line 2 number 16: a number has a byte that is no digit\n")
  pub number_too_large :
      Tells (codes "closed 256 halving 1 10 cap 64\n")
      (codes "refused line 1 number 16: a number is too large\n")
  pub earlier_tick :
      Tells (closed_start ++ codes "4 wait\n3 wait\n")
      (codes "refused line 3 number 14: the tick is before that of the order before\n")
  pub no_slot :
      Tells (closed_start ++ codes "4 wait\n4 wait\n4 wait\n")
      (codes "refused line 4 number 12: more orders than there is room for\n")
  pub no_room :
      Tells (closed_start ++ codes "4 wait\n4 wait\n")
      (codes "refused line 4 number 12: the order file is longer than the output\n")
