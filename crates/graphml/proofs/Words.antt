-- The parts of a line: no word is longer than eight bytes, no number than twenty; no word has a byte that ends a text.
use Rattle.std.proofs.Common.{refl, ℕ, ◌^◌, ◌<◌, ◌≤◌, length, decimal, arith, lit≤}
use Rattle.std.proofs.lemmas.Fmt.{length-decimal-le}
use Rattle.protocol.specs.Words.{word}
use Rattle.graphml.specs.Texts.{happening_line, edge_line}
use Rattle.protocol.specs.declared.happening.Happening.{Happening}
use Rattle.protocol.specs.declared.happening.HappeningKind.{HappeningKind}
use Rattle.protocol.specs.declared.happening.HappeningKind.TheVariants.{Sent, Arrived, Lost, Enrolled, Struck, Crashed, Stopped, Left, Joining, Leaving}
use Rattle.markup.proofs.Digits.{Plain}

pub word_le : (k : HappeningKind) → length (word k) ≤ 8
word_le Sent = lit≤ tt
word_le Arrived = lit≤ tt
word_le Lost = lit≤ tt
word_le Enrolled = lit≤ tt
word_le Struck = lit≤ tt
word_le Crashed = lit≤ tt
word_le Stopped = lit≤ tt
word_le Left = lit≤ tt
word_le Joining = lit≤ tt
word_le Leaving = lit≤ tt

pub some_happening : (k : ℕ) (h : Happening) → 0 < length (happening_line k h)
unfolding happening_line
some_happening k h = omega arith

pub some_edge : (a b : ℕ) → 0 < length (edge_line a b)
unfolding edge_line
some_edge a b = omega arith

pub number_le : (n : ℕ) → n < 2 ^ 64 → length (decimal n) ≤ 20
number_le n h = length-decimal-le 20 n (omega arith) (omega arith) h

pub word_plain : (k : HappeningKind) → Plain (word k)
word_plain Sent = (refl, (refl, (refl, (refl, tt))))
word_plain Arrived = (refl, (refl, (refl, (refl, (refl, (refl, (refl, tt)))))))
word_plain Lost = (refl, (refl, (refl, (refl, tt))))
word_plain Enrolled = (refl, (refl, (refl, (refl, (refl, (refl, (refl, (refl, tt))))))))
word_plain Struck = (refl, (refl, (refl, (refl, (refl, (refl, tt))))))
word_plain Crashed = (refl, (refl, (refl, (refl, (refl, (refl, (refl, tt)))))))
word_plain Stopped = (refl, (refl, (refl, (refl, (refl, (refl, (refl, tt)))))))
word_plain Left = (refl, (refl, (refl, (refl, tt))))
word_plain Joining = (refl, (refl, (refl, (refl, (refl, (refl, (refl, tt)))))))
word_plain Leaving = (refl, (refl, (refl, (refl, (refl, (refl, (refl, tt)))))))
