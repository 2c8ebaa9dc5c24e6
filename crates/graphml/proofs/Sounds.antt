-- What is set aside stays so.
use Rattle.std.proofs.Common.{◌≡◌, ℕ, ◌+◌, ◌<◌, true, List, length, sym, ap, ◌∙◌, subst, arith, leb-true, zero-add}
use Rattle.graphml.specs.Writer.{Writer, Sound, after_opening}
use Rattle.markup.specs.Held.{has_room}
use Rattle.text.proofs.Placed.{length-with_text_at}

pub sound_opened : (s : Writer) (o : List ℕ) (n k : ℕ) → Sound s k → has_room s.out o n ≡ true → Sound (after_opening s o n) (n + k)
sound_opened s o n k h p =
    let q = leb-true _ _ p in
    let l = length-with_text_at s.out.bytes s.out.at o (omega arith) in
    record { fits = omega arith; few = omega arith }

-- after a line that is not empty, one more may be counted
pub counted : {s u : Writer} {t : List ℕ} (o : List ℕ) (k : ℕ) → t ≡ o → 0 < length o → true ≡ has_room s.out t 0 → u ≡ after_opening s t 0 → Sound s k → Sound u k × (u.happenings + u.edges < u.out.at)
counted {s} {u} {t} o k e some p q h =
    let f = p ∙ ap (λ l. has_room s.out l 0) e in
    let g = q ∙ ap (λ l. after_opening s l 0) e in
    let x : Sound (after_opening s o 0) k = subst (Sound (after_opening s o 0)) (zero-add k) (sound_opened s o 0 k h (sym f)) in
    let y : (after_opening s o 0).happenings + (after_opening s o 0).edges < (after_opening s o 0).out.at = omega arith in
    subst (λ v. Sound v k × (v.happenings + v.edges < v.out.at)) (sym g) (x, y)
