use Rattle.std.proofs.Common.{sym, ap}
use Rattle.schedule.specs.Notices.{cause_words}
use Rattle.schedule.proofs.notice.cause_words.Goals as goal

pub returns-in-MissingWord : goal.returns-in-MissingWord
returns-in-MissingWord c = ap cause_words (sym c.in-MissingWord.is)

pub returns-in-UnknownWord : goal.returns-in-UnknownWord
returns-in-UnknownWord c = ap cause_words (sym c.in-UnknownWord.is)

pub returns-in-NumberTooLarge : goal.returns-in-NumberTooLarge
returns-in-NumberTooLarge c = ap cause_words (sym c.in-NumberTooLarge.is)

pub returns-in-EarlierTick : goal.returns-in-EarlierTick
returns-in-EarlierTick c = ap cause_words (sym c.in-EarlierTick.is)

pub returns-in-NoSlot : goal.returns-in-NoSlot
returns-in-NoSlot c = ap cause_words (sym c.in-NoSlot.is)

pub returns-in-NoRoom : goal.returns-in-NoRoom
returns-in-NoRoom c = ap cause_words (sym c.in-NoRoom.is)
