-- Examples worked by hand from the rules alone: one table.
use Rattle.std.specs.Prelude.{◌≡◌, ℕ, true, false, List, [], ◌∷◌, ◌++◌, map, replicate, Some, None, Ok, Err, codes}
use Rattle.pace.specs.Cap.{capped_meaning}
use Rattle.protocol.specs.declared.call.Call.{Call}
use Rattle.protocol.specs.declared.call.Call.TheVariants.{Tick, Deliver, Lose, Crash, Join, Leave}
use Rattle.protocol.specs.declared.kind.GroupKind.TheVariants.{Closed, Expanding, Dynamic}
use Rattle.protocol.specs.declared.party.Ending.TheVariants.{Crashed, Stopped, Left}
use Rattle.protocol.specs.declared.party.Roll.TheVariants.{Off, On, Struck}
use Rattle.protocol.specs.declared.party.Stage.TheVariants.{Joining, In, Leaving}
use Rattle.protocol.specs.declared.party.Standing.TheVariants.{Live, Ended}
use Rattle.protocol.specs.declared.refusal.Refusal.TheVariants.{NoSlot, BeatDue}
use Rattle.protocol.specs.declared.table.Root.TheVariants.{Running}
use Rattle.orders.specs.declared.order.Order.{Order}
use Rattle.orders.specs.declared.order.OrderKind.{OrderKind}
use Rattle.orders.specs.declared.order.OrderKind.TheVariants.{Deliver as ToDeliver, Lose as ToLose, Crash as ToCrash, Join as ToJoin, Leave as ToLeave, Wait}
use Rattle.orders.specs.declared.start.PaceKind.TheVariants.{Halving, TwoPhase}
use Rattle.orders.specs.declared.start.Start.{Start}
use Rattle.player.specs.declared.play.PlayFault.TheVariants.{Refused}
use Rattle.handplayed.specs.Columns.{Given, Outcome, nothing, outcome, limits, waits, cap, parties, pace, calls, export, orders, reading, writing, notice, append, find}
use Rattle.handplayed.specs.Groups.{halves, two_phases, lists, one, two, root_stopped, root_crashed, new, with_beat, beside, record_at, party_crashes, root_crashes, tick_waits, joining_lost, joiner_hears, leaves, late_call, miss_in_turn, heard_again, wrong_calls}
use Rattle.handplayed.specs.Texts.{text, empty_file, empty_file_cut, waiting_file, waiting_file_cut, leaving_file}

-- what is given, and what should come of it
pub record Example : Type 0 where
  pub given : Given
  pub expected : Outcome

abbrev pub example : Given → Outcome → Example
example given expected = record { given = given; expected = expected }

-- each call is granted
abbrev pub granted : List Call → List ℕ
granted cs = map (λ _. 0) cs

-- one answer alone
abbrev pub number : ℕ → Outcome
number n = record nothing { answers = n ∷ [] }

-- questions 1 to 5
abbrev pub set_ups : List Example
set_ups =
    example (limits 1 1000000) (number 0)
    ∷ example (limits 0 10) (number 1)
    ∷ example (limits 11 10) (number 1)
    ∷ example (limits 1 1000001) (number 1)
    ∷ example (waits 4 10 (10 ∷ 10 ∷ 4 ∷ [])) (number 0)
    ∷ example (waits 4 10 (10 ∷ 3 ∷ [])) (number 4)
    ∷ example (waits 4 10 (10 ∷ 11 ∷ [])) (number 4)
    ∷ example (waits 4 10 (9 ∷ [])) (number 3)
    ∷ example (waits 4 10 (9 ∷ 3 ∷ [])) (number 3)
    ∷ example (waits 4 10 (replicate 64 10)) (number 0)
    ∷ example (waits 4 10 (replicate 65 10)) (number 2)
    ∷ example (waits 4 10 (replicate 65 9)) (number 2)
    ∷ example (waits 4 10 []) (number 2)
    ∷ example (cap 0) (number 2)
    ∷ example (cap 64) (number 0)
    ∷ example (cap 65) (number 2)
    ∷ example (parties 0) (number 5)
    ∷ example (parties 32) (number 0)
    ∷ example (parties 33) (number 5)
    ∷ []

abbrev pub paces : List Example
paces =
    example (pace Closed (halves 1 10)) record nothing { waits = 10 ∷ 5 ∷ 2 ∷ 1 ∷ []; total = 18; patience = 28 }
    ∷ example (pace Expanding (halves 1 10)) record nothing { waits = 10 ∷ 5 ∷ 2 ∷ 1 ∷ []; total = 18; patience = 29 }
    ∷ example (pace Closed (halves 5 10)) record nothing { waits = 10 ∷ 5 ∷ []; total = 15; patience = 25 }
    ∷ example (pace Dynamic (halves 5 10)) record nothing { waits = 10 ∷ 5 ∷ []; total = 15; patience = 30 }
    -- 2 is below 3
    ∷ example (pace Closed (halves 3 10)) record nothing { waits = 10 ∷ 5 ∷ []; total = 15; patience = 25 }
    ∷ example (pace Closed (halves 10 10)) record nothing { waits = 10 ∷ []; total = 10; patience = 20 }
    ∷ example (pace Closed (two_phases 75 7200)) record nothing { waits = 7200 ∷ replicate 63 75; total = 11925; patience = 19125 }
    ∷ example (pace Closed (capped_meaning 10 (two_phases 75 7200))) record nothing { waits = 7200 ∷ replicate 9 75; total = 7875; patience = 15075 }
    ∷ example (pace Expanding (capped_meaning 10 (two_phases 75 7200))) record nothing { waits = 7200 ∷ replicate 9 75; total = 7875; patience = 15150 }
    -- a cap beyond the waits leaves them
    ∷ example (pace Closed (capped_meaning 64 (halves 5 10))) record nothing { waits = 10 ∷ 5 ∷ []; total = 15; patience = 25 }
    ∷ example (pace Dynamic (lists 4 10 (10 ∷ 10 ∷ 4 ∷ []))) record nothing { waits = 10 ∷ 10 ∷ 4 ∷ []; total = 24; patience = 38 }
    ∷ []

abbrev pub runs : List Example
runs =
    -- the root stops at 28, one patience after the party's crash
    example (calls (new (halves 1 10) (one Closed)) party_crashes)
    record nothing {
      waits = 10 ∷ 5 ∷ 2 ∷ 1 ∷ [];
      total = 18;
      patience = 28;
      answers = granted party_crashes;
      clock = 29;
      root = root_stopped 28;
      parties = Ended Crashed 0 In ∷ [];
      rolls = On ∷ [];
      sendings = 10 ∷ 20 ∷ 25 ∷ 27 ∷ [];
      records = 10;
    }
    -- the party stops at 28, one patience after the root's crash
    ∷ example (calls (new (halves 1 10) (one Closed)) root_crashes)
    record nothing {
      waits = 10 ∷ 5 ∷ 2 ∷ 1 ∷ [];
      total = 18;
      patience = 28;
      answers = granted root_crashes;
      clock = 29;
      root = root_crashed 0;
      parties = Ended Stopped 28 In ∷ [];
      rolls = On ∷ [];
      records = 2;
    }
    -- the root sends at 1; the tick at 2 is refused by 11 until beat and reply have come, and nobody stops
    ∷ example (calls (new (halves 1 1) (one Closed)) tick_waits)
    record nothing {
      waits = 1 ∷ [];
      total = 1;
      patience = 2;
      answers = 0 ∷ 0 ∷ 11 ∷ 0 ∷ 11 ∷ 0 ∷ 0 ∷ [];
      clock = 3;
      root = Running;
      parties = Live In ∷ [];
      rolls = On ∷ [];
      sendings = 1 ∷ 2 ∷ 2 ∷ [];
      records = 5;
    }
    -- six joining beats are sent, and the party stops at 12, which is D
    ∷ example (calls (new (halves 2 4) (one Expanding)) joining_lost)
    record nothing {
      waits = 4 ∷ 2 ∷ [];
      total = 6;
      patience = 12;
      answers = granted joining_lost;
      clock = 13;
      root = Running;
      parties = Ended Stopped 12 Joining ∷ [];
      rolls = Off ∷ [];
      sendings = 0 ∷ 2 ∷ 4 ∷ 6 ∷ 8 ∷ 10 ∷ [];
      records = 14;
    }
    -- the party calls at 0, 2 and 4, hears at 5 and stops at 17, one patience later; the root has crashed and notes nothing
    ∷ example (calls (new (halves 2 4) (one Expanding)) joiner_hears)
    record nothing {
      waits = 4 ∷ 2 ∷ [];
      total = 6;
      patience = 12;
      answers = granted joiner_hears;
      clock = 18;
      root = root_crashed 5;
      parties = Ended Stopped 17 In ∷ [];
      rolls = On ∷ [];
      sendings = 0 ∷ 2 ∷ 4 ∷ 4 ∷ 5 ∷ [];
      records = 14;
    }
    -- a root that has ended enrols nobody
    ∷ example (calls (new (halves 2 4) (one Expanding)) (Join 1 ∷ Crash 0 ∷ Deliver 1 3 ∷ []))
    record nothing {
      waits = 4 ∷ 2 ∷ [];
      total = 6;
      patience = 12;
      answers = granted (Join 1 ∷ Crash 0 ∷ Deliver 1 3 ∷ []);
      root = root_crashed 0;
      parties = Live Joining ∷ [];
      rolls = Off ∷ [];
      sendings = 0 ∷ [];
      records = 4;
    }
    -- it hears last at 9 and has left at 21; a joining beat is due at 2, a reply and a joining beat at 6
    ∷ example (calls (new (halves 2 4) (one Dynamic)) leaves)
    record nothing {
      waits = 4 ∷ 2 ∷ [];
      total = 6;
      patience = 12;
      answers = 0 ∷ 0 ∷ 0 ∷ 11 ∷ replicate 7 0 ++ (11 ∷ 0 ∷ 11 ∷ replicate 20 0);
      clock = 22;
      root = Running;
      parties = Ended Left 21 Leaving ∷ [];
      rolls = Struck ∷ [];
      sendings = 0 ∷ 2 ∷ 4 ∷ 4 ∷ 6 ∷ 8 ∷ 9 ∷ [];
      records = 19;
    }
    -- misses 0 and 0, 1 and 0, 0 and 1, 1 and 2, 2 and 3, 3 and 4, each with the shorter wait: rounds end at 10, 20, 25, 30, 32 and 33, where the
    -- root stops; it went on at 32, with a wait of tmin. Party 2 heard last at 11, party 1 at 21
    ∷ example (calls (new (halves 1 10) (two Closed)) miss_in_turn)
    record nothing {
      waits = 10 ∷ 5 ∷ 2 ∷ 1 ∷ [];
      total = 18;
      patience = 28;
      answers = granted miss_in_turn;
      clock = 50;
      root = root_stopped 33;
      parties = Ended Stopped 49 In ∷ Ended Stopped 39 In ∷ [];
      rolls = On ∷ On ∷ [];
      sendings = 10 ∷ 10 ∷ 11 ∷ 20 ∷ 20 ∷ 21 ∷ 25 ∷ 25 ∷ 30 ∷ 30 ∷ 32 ∷ 32 ∷ [];
      records = 27;
    }
    -- the party misses the beat of 10 and hears that of 20: its misses are 1, 0 and 1 again, and the rounds last 5, 10 and 5
    ∷ example (calls (new (halves 1 10) (one Closed)) heard_again)
    record nothing {
      waits = 10 ∷ 5 ∷ 2 ∷ 1 ∷ [];
      total = 18;
      patience = 28;
      answers = granted heard_again;
      clock = 41;
      root = Running;
      parties = Live In ∷ [];
      rolls = On ∷ [];
      sendings = 10 ∷ 20 ∷ 21 ∷ 25 ∷ 35 ∷ 40 ∷ [];
      records = 11;
    }
    -- struck at 5, where a late joining beat enrols it no more: nothing is sent at 6
    ∷ example (calls (new (halves 2 2) (one Dynamic)) late_call)
    record nothing {
      waits = 2 ∷ [];
      total = 2;
      patience = 6;
      answers = granted late_call;
      clock = 12;
      root = Running;
      parties = Ended Left 11 Leaving ∷ [];
      rolls = Struck ∷ [];
      sendings = 1 ∷ 2 ∷ 3 ∷ 4 ∷ 4 ∷ 5 ∷ [];
      records = 17;
    }
    ∷ []

-- which question comes first
abbrev pub questions : List Example
questions =
    -- 6 before 7, 8 and 9, and 7 before 8
    example (calls (new (halves 1 10) (one Closed)) wrong_calls)
    record nothing {
      waits = 10 ∷ 5 ∷ 2 ∷ 1 ∷ [];
      total = 18;
      patience = 28;
      answers = 6 ∷ 6 ∷ 6 ∷ 6 ∷ 6 ∷ 6 ∷ 7 ∷ 7 ∷ 9 ∷ 9 ∷ 9 ∷ 0 ∷ 8 ∷ 0 ∷ 8 ∷ [];
      root = root_crashed 0;
      parties = Ended Crashed 0 In ∷ [];
      rolls = On ∷ [];
      records = 2;
    }
    -- 7 and 8 of parties that may join and leave
    ∷ example (calls (new (halves 2 4) (one Dynamic)) (Leave 1 ∷ Crash 1 ∷ Join 1 ∷ Join 1 ∷ Leave 1 ∷ []))
    record nothing {
      waits = 4 ∷ 2 ∷ [];
      total = 6;
      patience = 12;
      answers = 8 ∷ 8 ∷ 0 ∷ 8 ∷ 8 ∷ [];
      parties = Live Joining ∷ [];
      rolls = Off ∷ [];
      sendings = 0 ∷ [];
      records = 2;
    }
    ∷ example (calls (new (halves 2 4) (one Expanding)) (Leave 1 ∷ Join 1 ∷ Leave 1 ∷ []))
    record nothing {
      waits = 4 ∷ 2 ∷ [];
      total = 6;
      patience = 12;
      answers = 7 ∷ 0 ∷ 7 ∷ [];
      parties = Live Joining ∷ [];
      rolls = Off ∷ [];
      sendings = 0 ∷ [];
      records = 2;
    }
    -- 6, 8, 9 and 11 before 12: there is one slot
    ∷ example (calls (with_beat 1 9) (Tick ∷ Deliver 2 1 ∷ Deliver 1 2 ∷ Join 1 ∷ Deliver 1 1 ∷ Lose 1 1 ∷ Crash 1 ∷ Crash 0 ∷ Leave 1 ∷ []))
    record nothing {
      waits = 4 ∷ 2 ∷ [];
      total = 6;
      patience = 12;
      answers = 11 ∷ 6 ∷ 9 ∷ 8 ∷ replicate 5 12;
      clock = 9;
      parties = Live In ∷ [];
      rolls = On ∷ [];
    }
    -- 6, 8, 9 and 11 before 13: the group did not write this record
    ∷ example (calls (beside (record_at 5) 0 (with_beat 3 9)) (Tick ∷ Deliver 2 1 ∷ Deliver 1 2 ∷ Join 1 ∷ Deliver 1 1 ∷ Lose 1 1 ∷ Crash 1 ∷ Crash 0 ∷ Leave 1 ∷ []))
    record nothing {
      waits = 4 ∷ 2 ∷ [];
      total = 6;
      patience = 12;
      answers = 11 ∷ 6 ∷ 9 ∷ 8 ∷ replicate 5 13;
      clock = 9;
      parties = Live In ∷ [];
      rolls = On ∷ [];
      sendings = 5 ∷ [];
      records = 1;
    }
    -- 12 before 13
    ∷ example (calls (beside (record_at 5) 0 (with_beat 2 9)) (Leave 1 ∷ []))
    record nothing {
      waits = 4 ∷ 2 ∷ [];
      total = 6;
      patience = 12;
      answers = 12 ∷ [];
      clock = 9;
      parties = Live In ∷ [];
      rolls = On ∷ [];
      sendings = 5 ∷ [];
      records = 1;
    }
    -- 13: as many records, and one later than the clock
    ∷ example (calls (beside (record_at 10) 1 (with_beat 100 9)) (Leave 1 ∷ []))
    record nothing {
      waits = 4 ∷ 2 ∷ [];
      total = 6;
      patience = 12;
      answers = 13 ∷ [];
      clock = 9;
      parties = Live In ∷ [];
      rolls = On ∷ [];
      sendings = 10 ∷ [];
      records = 1;
    }
    -- 10 before 11 and 12
    ∷ example (calls (with_beat 2 4000000000) (Tick ∷ Lose 1 1 ∷ Tick ∷ []))
    record nothing {
      waits = 4 ∷ 2 ∷ [];
      total = 6;
      patience = 12;
      answers = 10 ∷ 0 ∷ 10 ∷ [];
      clock = 4000000000;
      parties = Live In ∷ [];
      rolls = On ∷ [];
      records = 1;
    }
    ∷ []

abbrev pub files : List Example
files =
    -- an empty log: whole in 419
    example (export (new (halves 1 10) (one Closed)) [] 419)
    record nothing {
      answers = 0 ∷ [];
      answer = Some (record { bytes = 419; happenings = 0; edges = 0; whole = true });
      output = empty_file;
    }
    -- cut at 346 to 298
    ∷ example (export (new (halves 1 10) (one Closed)) [] 346)
    record nothing {
      answers = 0 ∷ [];
      answer = Some (record { bytes = 298; happenings = 0; edges = 0; whole = false });
      output = empty_file_cut ++ replicate 48 46;
    }
    -- no room for the frame
    ∷ example (export (new (halves 1 10) (one Closed)) [] 274) record nothing { answers = 17 ∷ []; output = replicate 274 46 }
    -- a party that joins, hears and leaves, whole
    ∷ example (export (new (halves 2 4) (one Dynamic)) leaves 2000)
    record nothing {
      answers = 0 ∷ [];
      answer = Some (record { bytes = 1968; happenings = 19; edges = 6; whole = true });
      output = leaving_file ++ replicate 32 46;
    }
    -- one byte short of the whole: the last edge is left out
    ∷ example (export (new (halves 1 1) (one Closed)) tick_waits 833)
    record nothing {
      answers = 0 ∷ [];
      answer = Some (record { bytes = 802; happenings = 5; edges = 1; whole = false });
      output = waiting_file ++ replicate 31 46;
    }
    -- the second happening does not fit, and so the third is left out that would
    ∷ example (export (new (halves 1 1) (one Closed)) tick_waits 487)
    record nothing {
      answers = 0 ∷ [];
      answer = Some (record { bytes = 416; happenings = 1; edges = 0; whole = false });
      output = waiting_file_cut ++ replicate 71 46;
    }
    -- 13 before 17
    ∷ example (export (beside (record_at 5) 0 (new (halves 1 10) (one Closed))) [] 274) record nothing { answers = 13 ∷ []; output = replicate 274 46 }
    ∷ []

abbrev pub order : OrderKind → (party leg tick : ℕ) → Order
order kind party leg tick = record { kind = kind; party = party; leg = leg; tick = tick }

abbrev pub playings : List Example
playings =
    -- the second order's tick is past the last tick of a reply
    example (orders (new (halves 1 10) (one Closed)) (order ToDeliver 1 1 11 ∷ order ToDeliver 1 2 12 ∷ order Wait 0 0 20 ∷ []))
    record nothing {
      waits = 10 ∷ 5 ∷ 2 ∷ 1 ∷ [];
      total = 18;
      patience = 28;
      answers = 11 ∷ [];
      place = 1;
      clock = 11;
      parties = Live In ∷ [];
      rolls = On ∷ [];
      sendings = 10 ∷ 11 ∷ [];
      records = 3;
    }
    ∷ example (orders (new (halves 1 10) (one Closed)) (order ToCrash 0 0 0 ∷ order Wait 9 9 29 ∷ []))
    record nothing {
      waits = 10 ∷ 5 ∷ 2 ∷ 1 ∷ [];
      total = 18;
      patience = 28;
      answers = 0 ∷ [];
      clock = 29;
      root = root_crashed 0;
      parties = Ended Stopped 28 In ∷ [];
      rolls = On ∷ [];
      records = 2;
    }
    ∷ []

abbrev pub small_start : Start
small_start = record { kind = Closed; parties = 1; tmin = 1; tmax = 10; pace = Halving; cap = 64 }

abbrev pub small_start_bytes : List ℕ
small_start_bytes = 0x48 ∷ 0x47 ∷ 0x01 ∷ 0x01 ∷ 0x00 ∷ 0x00 ∷ 0x00 ∷ 0x01 ∷ 0x00 ∷ 0x00 ∷ 0x00 ∷ 0x0A ∷ 0x01 ∷ 0x40 ∷ []

abbrev pub start : Start
start = record { kind = Dynamic; parties = 2; tmin = 258; tmax = 66051; pace = TwoPhase; cap = 10 }

abbrev pub start_bytes : List ℕ
start_bytes = 0x48 ∷ 0x47 ∷ 0x03 ∷ 0x02 ∷ 0x00 ∷ 0x00 ∷ 0x01 ∷ 0x02 ∷ 0x00 ∷ 0x01 ∷ 0x02 ∷ 0x03 ∷ 0x02 ∷ 0x0A ∷ []

-- of tick 5, and of tick 16909060
abbrev pub join_bytes : List ℕ
join_bytes = 0x48 ∷ 0x4F ∷ 0x04 ∷ 0x01 ∷ 0x09 ∷ 0x00 ∷ 0x00 ∷ 0x00 ∷ 0x05 ∷ []

abbrev pub deliver_bytes : List ℕ
deliver_bytes = 0x48 ∷ 0x4F ∷ 0x01 ∷ 0x02 ∷ 0x03 ∷ 0x01 ∷ 0x02 ∷ 0x03 ∷ 0x04 ∷ []

abbrev pub join : Order
join = order ToJoin 1 9 5

abbrev pub deliver : Order
deliver = order ToDeliver 2 3 16909060

-- an expanding group, and one more order of each kind
abbrev pub other_start : Start
other_start = record { kind = Expanding; parties = 32; tmin = 2; tmax = 256; pace = Halving; cap = 3 }

abbrev pub other_bytes : List ℕ
other_bytes =
    (0x48 ∷ 0x47 ∷ 0x02 ∷ 0x20 ∷ 0x00 ∷ 0x00 ∷ 0x00 ∷ 0x02 ∷ 0x00 ∷ 0x00 ∷ 0x01 ∷ 0x00 ∷ 0x01 ∷ 0x03 ∷ [])
    ++ ((0x48 ∷ 0x4F ∷ 0x02 ∷ 0x01 ∷ 0x02 ∷ 0x00 ∷ 0x00 ∷ 0x00 ∷ 0xFF ∷ [])
    ++ ((0x48 ∷ 0x4F ∷ 0x03 ∷ 0x00 ∷ 0x00 ∷ 0x00 ∷ 0x00 ∷ 0x01 ∷ 0x00 ∷ [])
    ++ ((0x48 ∷ 0x4F ∷ 0x05 ∷ 0x04 ∷ 0x00 ∷ 0x00 ∷ 0x00 ∷ 0x01 ∷ 0x00 ∷ [])
    ++ (0x48 ∷ 0x4F ∷ 0x06 ∷ 0x00 ∷ 0x00 ∷ 0x00 ∷ 0x01 ∷ 0x00 ∷ 0x00 ∷ []))))

abbrev pub other_orders : List Order
other_orders = order ToLose 1 2 255 ∷ order ToCrash 0 0 256 ∷ order ToLeave 4 0 256 ∷ order Wait 0 0 65536 ∷ []

-- what is refused of a file: its number and its byte place, after such orders
abbrev pub refused : ℕ → ℕ → List Order → Outcome
refused n byte os = record nothing { answers = n ∷ []; place = byte; orders = os }

abbrev pub order_files : List Example
order_files =
    example (reading small_start_bytes 0) record nothing { answers = 0 ∷ []; start = Some small_start }
    ∷ example (reading (start_bytes ++ (join_bytes ++ deliver_bytes)) 2) record nothing { answers = 0 ∷ []; start = Some start; orders = join ∷ deliver ∷ [] }
    ∷ example (reading other_bytes 4) record nothing { answers = 0 ∷ []; start = Some other_start; orders = other_orders }
    ∷ example (writing other_start other_orders) record nothing { output = other_bytes }
    ∷ example (writing start (join ∷ deliver ∷ [])) record nothing { output = start_bytes ++ (join_bytes ++ deliver_bytes) }
    -- a byte missing, another mark, no known kind or pace
    ∷ example (reading (0x48 ∷ 0x47 ∷ 0x01 ∷ []) 2) (refused 15 0 [])
    ∷ example (reading (join_bytes ++ small_start_bytes) 2) (refused 15 0 [])
    ∷ example (reading (small_start_bytes ++ (0x48 ∷ 0x4F ∷ 0x04 ∷ 0x01 ∷ 0x09 ∷ 0x00 ∷ 0x00 ∷ 0x00 ∷ [])) 2) (refused 15 14 [])
    ∷ example (reading (small_start_bytes ++ (join_bytes ++ small_start_bytes)) 2) (refused 15 23 (join ∷ []))
    ∷ example (reading (0x48 ∷ 0x47 ∷ 0x04 ∷ 0x02 ∷ 0x00 ∷ 0x00 ∷ 0x01 ∷ 0x02 ∷ 0x00 ∷ 0x01 ∷ 0x02 ∷ 0x03 ∷ 0x02 ∷ 0x0A ∷ []) 2) (refused 16 0 [])
    ∷ example (reading (0x48 ∷ 0x47 ∷ 0x03 ∷ 0x02 ∷ 0x00 ∷ 0x00 ∷ 0x01 ∷ 0x02 ∷ 0x00 ∷ 0x01 ∷ 0x02 ∷ 0x03 ∷ 0x03 ∷ 0x0A ∷ []) 2) (refused 16 0 [])
    -- 16 before 12, and 12 before 14
    ∷ example (reading (small_start_bytes ++ (0x48 ∷ 0x4F ∷ 0x07 ∷ 0x01 ∷ 0x09 ∷ 0x00 ∷ 0x00 ∷ 0x00 ∷ 0x05 ∷ [])) 0) (refused 16 14 [])
    ∷ example (reading (small_start_bytes ++ (deliver_bytes ++ join_bytes)) 1) (refused 12 23 (deliver ∷ []))
    ∷ example (reading (small_start_bytes ++ (deliver_bytes ++ join_bytes)) 2) (refused 14 23 (deliver ∷ []))
    ∷ []

abbrev pub notices : List Example
notices =
    example (notice (Ok record { cut = false; end = Ok tt })) record nothing { output = [] }
    ∷ example (notice (Ok record { cut = true; end = Err record { order = 12; fault = Refused BeatDue } }))
    record nothing { output = text (codes "<!-- cut -->" ∷ codes "<!-- refused order 12 number 11 -->" ∷ []) }
    ∷ example (notice (Ok record { cut = true; end = Ok tt })) record nothing { output = text (codes "<!-- cut -->" ∷ []) }
    ∷ example (notice (Ok record { cut = false; end = Err record { order = 0; fault = Refused NoSlot } }))
    record nothing { output = text (codes "<!-- refused order 0 number 12 -->" ∷ []) }
    ∷ example (notice (Err record { byte = 23; number = 14 })) record nothing { output = text (codes "refused byte 23 number 14" ∷ []) }
    ∷ []

-- a list with records of ticks 3 and 5
abbrev pub appends : List Example
appends =
    example (append (3 ∷ 5 ∷ []) 5 1) (number 0)
    ∷ example (append (3 ∷ 5 ∷ []) 4 1) (number 14)
    ∷ example (append (3 ∷ 5 ∷ []) 5 0) (number 12)
    ∷ example (append (3 ∷ 5 ∷ []) 4 0) (number 12)
    ∷ example (append [] 0 1) (number 0)
    ∷ []

abbrev pub finds : List Example
finds =
    example (find (3 ∷ 5 ∷ 5 ∷ 7 ∷ []) 5) record nothing { found = Some 1 }
    ∷ example (find (3 ∷ 5 ∷ 5 ∷ 7 ∷ []) 4) record nothing { found = Some 1 }
    ∷ example (find (3 ∷ 5 ∷ 5 ∷ 7 ∷ []) 0) record nothing { found = Some 0 }
    ∷ example (find (3 ∷ 5 ∷ 5 ∷ 7 ∷ []) 8) (record nothing { found = None })
    ∷ []

abbrev pub table : List Example
table = set_ups ++ (paces ++ (runs ++ (questions ++ (files ++ (playings ++ (order_files ++ (notices ++ (appends ++ finds))))))))

-- of each example comes what should
abbrev pub WorkedExamplesStand : Type 0
WorkedExamplesStand = map (λ (e : Example). outcome e.given) table ≡ map (λ (e : Example). e.expected) table
