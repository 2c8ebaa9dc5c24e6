-- The beats of a run as its log shows them: each is sent once, and arrives or is lost at most once.
use Rattle.std.specs.Prelude.{◌≡◌, ℕ, suc, ◌<◌, ◌≤◌, Bool, true, false, cond, ◌||◌, List, [], ◌∷◌, ◌++◌, length, get_or, Some, ◌≢◌, slice_index_or}
use Rattle.protocol.specs.declared.party.Beat.{Beat}
use Rattle.protocol.specs.declared.happening.HappeningKind.{HappeningKind}
use Rattle.protocol.specs.declared.happening.HappeningKind.TheVariants.{Sent, Arrived, Lost, Enrolled, Struck, Crashed, Stopped, Left, Joining, Leaving}
use Rattle.protocol.specs.declared.happening.Happening.{Happening}
use Rattle.protocol.specs.declared.call.Call.{Call}
use Rattle.protocol.specs.declared.call.Call.TheVariants.{Tick, Deliver, Lose, Crash, Join, Leave}
use Rattle.protocol.specs.calls.Tick.{LegsFreeAtTick}
use Rattle.protocol.specs.calls.Deliver.{ReplyLegFree}
use Rattle.protocol.specs.calls.Join.{EntryLegFree}
use Rattle.protocol.specs.Party.{on_leg}
use Rattle.protocol.specs.Rules.{Rules}
use Rattle.protocol.specs.State.{State, the, happening, opening}
use Rattle.protocol.specs.calls.Lose.{sender}
use Rattle.protocol.specs.Runs.{perform, state_after}

abbrev pub is_arrival : HappeningKind → Bool
is_arrival Sent = false
is_arrival Arrived = true
is_arrival Lost = false
is_arrival Enrolled = false
is_arrival Struck = false
is_arrival Crashed = false
is_arrival Stopped = false
is_arrival Left = false
is_arrival Joining = false
is_arrival Leaving = false

abbrev pub is_loss : HappeningKind → Bool
is_loss Sent = false
is_loss Arrived = false
is_loss Lost = true
is_loss Enrolled = false
is_loss Struck = false
is_loss Crashed = false
is_loss Stopped = false
is_loss Left = false
is_loss Joining = false
is_loss Leaving = false

-- an arrival or a loss: what becomes of a beat that was sent
abbrev pub settles : HappeningKind → Bool
settles w = is_arrival w || is_loss w

-- stands for a record where there is none
abbrev pub nothing : Happening
nothing = happening 0 0 Lost 0

-- the record at place k of the log
abbrev pub happening_at : List Happening → ℕ → Happening
happening_at log k = slice_index_or log k nothing

-- at place k of the log stands a sending by o
pub record SentBy (log : List Happening) (o k : ℕ) : Type 0 where
  pub below : k < length log
  pub kind : (happening_at log k).kind ≡ Sent
  pub owner : (happening_at log k).owner ≡ o

-- o and r are the two ends of a leg: the root, and a party of the plan
pub record OtherEnd (n o r : ℕ) : Type 0 where
  pub at_root : r ≡ 0 → (1 ≤ o) × (o ≤ n)
  pub at_party : 1 ≤ r → (r ≤ n) × (o ≡ 0)

-- the record h at place k links to an earlier sending by the other end, as an arrival does
pub record LinkedAt (n : ℕ) (log : List Happening) (k : ℕ) (h : Happening) : Type 0 where
  pub earlier : h.link < k
  pub by : ℕ
  pub sending : SentBy log by h.link
  pub other : OtherEnd n by h.owner

-- the record h at place k links to an earlier sending by its own owner, as a loss does
pub record LostAt (log : List Happening) (k : ℕ) (h : Happening) : Type 0 where
  pub earlier : h.link < k
  pub sending : SentBy log h.owner h.link

-- each record of such a kind is, with its place, as Q says
abbrev pub Each : (HappeningKind → Bool) → (ℕ → Happening → Type 0) → List Happening → Type 0
Each is Q log =
    (k : ℕ) → k < length log → is (happening_at log k).kind ≡ true → Q k (happening_at log k)

abbrev pub Linked : ℕ → List Happening → Type 0
Linked n log = Each is_arrival (LinkedAt n log) log

abbrev pub LossesLinked : List Happening → Type 0
LossesLinked log = Each is_loss (LostAt log) log

-- the sending and the arrival of a beat, by their places
pub record Edge : Type 0 where
  pub source : ℕ
  pub target : ℕ

abbrev pub edge : ℕ → ℕ → Edge
edge a b = record { source = a; target = b }

-- the edges of a log whose first record has place k
abbrev pub edges : ℕ → List Happening → List Edge
edges k [] = []
edges k (h ∷ log) = cond (is_arrival h.kind) (edge h.link k ∷ edges (suc k) log) (edges (suc k) log)

-- Q says of each beat on a leg of a party of the plan
abbrev pub EachBeat : Rules → State → (ℕ → ℕ → Beat → Type 0) → Type 0
EachBeat rules s Q =
    (i leg : ℕ) (b : Beat) → 1 ≤ i → i ≤ rules.plan.n → on_leg leg (the i s.table) ≡ Some b →
    Q i leg b

-- each beat on a leg and each arrival goes back to a sending by the right end,
-- each loss to one by its owner
pub record BeatsAreLogged (rules : Rules) (s : State) : Type 0 where
  pub on_legs : EachBeat rules s (λ i leg b. SentBy s.log (sender leg i) b.place)
  pub arrivals : Linked rules.plan.n s.log
  pub losses : LossesLinked s.log

-- no two arrivals or losses link to the same place
abbrev pub SettledOnce : List Happening → Type 0
SettledOnce log =
    (j k : ℕ) → j < k → k < length log →
    settles (happening_at log j).kind ≡ true → settles (happening_at log k).kind ≡ true →
    (happening_at log j).link ≢ (happening_at log k).link

-- no arrival or loss links to the place
abbrev pub Unsettled : List Happening → ℕ → Type 0
Unsettled log place =
    (k : ℕ) → k < length log → settles (happening_at log k).kind ≡ true →
    (happening_at log k).link ≢ place

-- no two edges come from the same place
abbrev pub SourcesDiffer : List Edge → Type 0
SourcesDiffer es =
    (j k : ℕ) → j < k → k < length es →
    (get_or es j (edge 0 0)).source ≢ (get_or es k (edge 0 0)).source

-- no sending arrives or is lost twice, none whose beat is on a leg has arrived or been lost,
-- and beats on different legs have different sendings
pub record SendingsSettleOnce (rules : Rules) (s : State) : Type 0 where
  pub once : SettledOnce s.log
  pub sources_differ : SourcesDiffer (edges 0 s.log)
  pub under_way : EachBeat rules s (λ i leg b. Unsettled s.log b.place)
  pub apart :
      EachBeat rules s (λ i leg b. EachBeat rules s (λ i' leg' b'.
      b.place ≡ b'.place → (i ≡ i') × (leg ≡ leg')))

-- the call among these, made from s₀ on, that put the beat b on a leg of party i:
-- it wrote the record of its sending
pub record PutBy (rules : Rules) (s₀ : State) (calls : List Call)
    (i leg : ℕ) (b : Beat) : Type 0 where
  pub before : List Call
  pub call : Call
  pub after : List Call
  pub among : calls ≡ before ++ (call ∷ after)
  -- the record of the sending is not one of those before the call, and is one of those after it
  pub not_yet : length (state_after rules before s₀).log ≤ b.place
  pub written : SentBy (perform rules call (state_after rules before s₀)).log (sender leg i) b.place
  pub put : on_leg leg (the i (perform rules call (state_after rules before s₀)).table) ≡ Some b

-- each beat on a leg was put there by the call that wrote the record of its sending
abbrev pub PutWithTheirSendings : Rules → List Call → State → Type 0
PutWithTheirSendings rules calls s =
    EachBeat rules s (λ i leg b. PutBy rules (opening rules) calls i leg b)

-- the legs on which the call puts a beat are free
abbrev pub FreeFor : Rules → Call → State → Type 0
FreeFor rules Tick s = LegsFreeAtTick rules s
FreeFor rules (Deliver i leg) s = ReplyLegFree i leg s
FreeFor rules (Lose i leg) s = Unit {0}
FreeFor rules (Crash i) s = Unit {0}
FreeFor rules (Join i) s = EntryLegFree i s
FreeFor rules (Leave i) s = Unit {0}
