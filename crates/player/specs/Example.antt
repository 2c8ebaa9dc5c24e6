-- Notices worked out by hand, in full.
use Rattle.std.specs.Prelude.{◌≡◌, true, false, [], ◌++◌, length, replicate, Ok, Err, codes}
use Rattle.protocol.specs.declared.refusal.Refusal.TheVariants.{NoSlot, BeatDue}
use Rattle.text.specs.Lines.{padded_text}
use Rattle.player.specs.declared.play.PlayFault.TheVariants.{Refused}
use Rattle.player.specs.Notices.{notice_lines}

pub record NoticesByHand : Type 0 where
  -- played to its end, and exported whole
  pub nothing_to_tell : notice_lines (Ok record { cut = false; end = Ok tt }) ≡ []
  pub cut : notice_lines (Ok record { cut = true; end = Ok tt }) ≡ codes "<!-- cut -->\n"
  pub stopped :
      notice_lines (Ok record { cut = false; end = Err record { order = 7; fault = Refused BeatDue } })
      ≡ codes "<!-- refused order 7 number 11 -->\n"
  pub cut_and_stopped :
      notice_lines (Ok record { cut = true; end = Err record { order = 40; fault = Refused NoSlot } })
      ≡ codes "<!-- cut -->\n<!-- refused order 40 number 12 -->\n"
  -- the 128 bytes of a line, and how long it is
  pub cut_bytes :
      padded_text (notice_lines (Ok record { cut = true; end = Ok tt })) ≡ codes "<!-- cut -->\n" ++ replicate 115 0
  pub cut_length : length (notice_lines (Ok record { cut = true; end = Ok tt })) ≡ 13
  pub not_played :
      notice_lines (Err record { byte = 23; number = 15 }) ≡ codes "refused byte 23 number 15\n"
