-- The notices worked out by hand are those that the definition gives.
use Rattle.std.proofs.Common.{◌≡◌, codes, decimal, refl, arith}
use Rattle.std.proofs.lemmas.Fmt.{decimal_digit, decimal-digits_of}
use Rattle.player.specs.Example.{NoticesByHand}
use Rattle.player.specs.Notices.{refused_line, cut_line, stopped_line}

seven : decimal 7 ≡ codes "7"
seven = decimal_digit 7 (omega arith)

eleven : decimal 11 ≡ codes "11"
eleven = decimal-digits_of 11 (omega arith) (omega arith)

twelve : decimal 12 ≡ codes "12"
twelve = decimal-digits_of 12 (omega arith) (omega arith)

fifteen : decimal 15 ≡ codes "15"
fifteen = decimal-digits_of 15 (omega arith) (omega arith)

twenty_three : decimal 23 ≡ codes "23"
twenty_three = decimal-digits_of 23 (omega arith) (omega arith)

forty : decimal 40 ≡ codes "40"
forty = decimal-digits_of 40 (omega arith) (omega arith)

pub by_hand : NoticesByHand
unfolding refused_line cut_line stopped_line
by_hand = record {
  nothing_to_tell = refl;
  cut = refl;
  stopped = rw (seven, eleven) refl;
  cut_and_stopped = rw (forty, twelve) refl;
  cut_bytes = refl;
  cut_length = refl;
  not_played = rw (twenty_three, fifteen) refl;
}
