-- A complaint in words.
use Rattle.std.specs.Prelude.{ℕ, List, ◌++◌, codes, decimal}
use Rattle.schedule.specs.declared.complaint.Cause.{Cause}
use Rattle.schedule.specs.declared.complaint.Cause.TheVariants.{MissingWord, UnknownWord, NotANumber, NumberTooLarge, WordTooMany, EarlierTick, NoSlot, NoStart, NoRoom}
use Rattle.schedule.specs.declared.complaint.Complaint.{Complaint}
use Rattle.schedule.specs.Causes.{complaint_number}

abbrev pub cause_words : Cause → List ℕ
cause_words MissingWord = codes "a word is missing"
cause_words UnknownWord = codes "a word is not known here"
cause_words NotANumber = codes "a number has a byte that is no digit"
cause_words NumberTooLarge = codes "a number is too large"
cause_words WordTooMany = codes "a word too many"
cause_words EarlierTick = codes "the tick is before that of the order before"
cause_words NoSlot = codes "more orders than there is room for"
cause_words NoStart = codes "no start"
cause_words NoRoom = codes "the order file is longer than the output"

unfoldable pub notice_line : Complaint → List ℕ
notice_line c =
    codes "refused line " ++ decimal c.line ++ codes " number " ++ decimal (complaint_number c.cause)
    ++ codes ": " ++ cause_words c.cause ++ codes "\n"
