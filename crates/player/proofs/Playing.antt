-- Orders played one after another, up to the first refusal.
use Rattle.std.proofs.Common.{◌≡◌, ℕ, suc, ◌+◌, ◌<◌, List, [], ◌∷◌, length, get_or, drop, sym, ap, ◌∙◌}
use Rattle.std.proofs.lemmas.List.{drop_more}
use Rattle.protocol.specs.State.{State}
use Rattle.protocol.specs.Making.{Making, making}
use Rattle.orders.specs.declared.order.Order.{Order}
use Rattle.player.specs.Playing.{Playing, calls_for, goes_on_from, playing}
use Rattle.protocol.specs.Rules.{Rules}

-- two playings came to the same group and log, and to the same stop
pub record Alike (a b : Playing) : Type 0 where
  pub state : a.state ≡ b.state
  pub stop : a.stop ≡ b.stop

module _ (rules : Rules) where
  abbrev made : Order → State → Making
  made o s = making rules (calls_for s.table.clock o) s

  -- the order at place k is played, and the others are left
  pub order_on : (a : Playing) (os : List Order) (k : ℕ) (o d : Order) (s s' : State) → k < length os → o ≡ get_or os k d →
      (made o s).number ≡ 0 → s' ≡ (made o s).state → Alike a (playing rules k (drop k os) s) → Alike a (playing rules (k + 1) (drop (k + 1) os) s')
  order_on a os k o d s s' h e z f i =
      let x = made o s in
      let rest = playing rules (k + 1) (drop (k + 1) os) x.state in
      let left : drop k os ≡ o ∷ drop (k + 1) os = drop_more os k d h ∙ ap (λ y. y ∷ drop (k + 1) os) (sym e) in
      record {
        state =
            i.state ∙ ap (λ ys. (playing rules k ys s).state) left ∙ ap (λ n. (goes_on_from n k x rest).state) z
            ∙ ap (λ t. (playing rules (k + 1) (drop (k + 1) os) t).state) (sym f);
        stop =
            i.stop ∙ ap (λ ys. (playing rules k ys s).stop) left ∙ ap (λ n. (goes_on_from n k x rest).stop) z
            ∙ ap (λ t. (playing rules (k + 1) (drop (k + 1) os) t).stop) (sym f);
      }

  -- the order at place k is refused
  pub order_refused : (a : Playing) (os : List Order) (k : ℕ) (o d : Order) (s s' : State) (n : ℕ) → k < length os → o ≡ get_or os k d →
      (made o s).number ≡ suc n → s' ≡ (made o s).state → Alike a (playing rules k (drop k os) s) →
      (s' ≡ a.state) × (record { order = k; number = suc n } ≡ a.stop)
  order_refused a os k o d s s' n h e z f i =
      let x = made o s in
      let rest = playing rules (k + 1) (drop (k + 1) os) x.state in
      let left : drop k os ≡ o ∷ drop (k + 1) os = drop_more os k d h ∙ ap (λ y. y ∷ drop (k + 1) os) (sym e) in (
        f ∙ sym (i.state ∙ ap (λ ys. (playing rules k ys s).state) left ∙ ap (λ n. (goes_on_from n k x rest).state) z),
        sym (i.stop ∙ ap (λ ys. (playing rules k ys s).stop) left ∙ ap (λ n. (goes_on_from n k x rest).stop) z),
      )

  -- no order is left
  pub orders_done : (a : Playing) (os : List Order) (k : ℕ) (s : State) → drop k os ≡ [] → Alike a (playing rules k (drop k os) s) →
      (s ≡ a.state) × (record { order = 0; number = 0 } ≡ a.stop)
  orders_done a os k s d i =
      (sym (i.state ∙ ap (λ ys. (playing rules k ys s).state) d), sym (i.stop ∙ ap (λ ys. (playing rules k ys s).stop) d))
