-- The texts and complaints worked out by hand are those that the definitions give.
use Rattle.std.proofs.Common.{◌≡◌, codes, decimal, refl, arith}
use Rattle.std.proofs.lemmas.Fmt.{decimal_digit, decimal-digits_of}
use Rattle.schedule.specs.Cuts.{lines_in, words_in}
use Rattle.schedule.specs.Words.{is_name, number_word, group_word, pace_word, order_word, only}
use Rattle.schedule.specs.Records.{next_word, byte_if, no_words, start_behind, order_behind, start_in, order_in}
use Rattle.schedule.specs.Texts.{order_lines_from, start_lines_from}
use Rattle.schedule.specs.Notices.{notice_line}
use Rattle.schedule.specs.Example.{TextsByHand}

one : decimal 1 ≡ codes "1"
one = decimal_digit 1 (omega arith)

two : decimal 2 ≡ codes "2"
two = decimal_digit 2 (omega arith)

three : decimal 3 ≡ codes "3"
three = decimal_digit 3 (omega arith)

four : decimal 4 ≡ codes "4"
four = decimal_digit 4 (omega arith)

twelve : decimal 12 ≡ codes "12"
twelve = decimal-digits_of 12 (omega arith) (omega arith)

fourteen : decimal 14 ≡ codes "14"
fourteen = decimal-digits_of 14 (omega arith) (omega arith)

fifteen : decimal 15 ≡ codes "15"
fifteen = decimal-digits_of 15 (omega arith) (omega arith)

sixteen : decimal 16 ≡ codes "16"
sixteen = decimal-digits_of 16 (omega arith) (omega arith)

pub by_hand : TextsByHand
unfolding lines_in words_in is_name number_word group_word pace_word order_word only next_word byte_if no_words start_behind order_behind start_in order_in order_lines_from start_lines_from notice_line
by_hand = record {
  each_kind_read = λ a b c d e f. refl;
  closed_read = refl;
  expanding_read = refl;
  no_start = λ a b. rw (two, fifteen) refl;
  missing_word = λ a b. rw (one, fifteen) refl;
  word_too_many = λ a b. rw (two, fifteen) refl;
  unknown_word = λ a b. rw (one, sixteen) refl;
  not_a_number = λ a b. rw (two, sixteen) refl;
  number_too_large = λ a b. rw (one, sixteen) refl;
  earlier_tick = λ a b. rw (three, fourteen) refl;
  no_slot = λ a b. rw (four, twelve) refl;
  no_room = λ a b. rw (four, twelve) refl;
}
