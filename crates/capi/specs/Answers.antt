-- The numbers that the exported functions answer, and what they write.
use Rattle.std.specs.Prelude.{◌≡◌, cond, List, ℕ, ◌+◌, ◌*◌, ◌/◌, ◌%◌, ◌≤◌, ◌<◌, eqb, length, take, drop}
use Rattle.settings.specs.declared.Settings.{Settings}
use Rattle.retry.specs.Loop.{loop_refusal, check_of, words_of}
use Rattle.retry.specs.declared.LoopAnswer.{LoopAnswer}
use Rattle.retry.specs.declared.LoopAnswer.TheVariants.{Accepted, Rejected, Refused}
use Rattle.report.specs.Report.{report_of}

-- the answer to arguments of a wrong size: 2 ^ 64 - 1
abbrev pub wrong_size : ℕ
wrong_size = 18446744073709551615

-- the room that a report needs
abbrev pub room : ℕ
room = 262144

-- What floecavern_report leaves. Too small a buffer stays as it is; another one starts with the r bytes of the report, and nothing is written behind
-- the room.
pub record Reported (file before after : List ℕ) (r : ℕ) : Type 0 where
  pub small : length before < room → (r ≡ wrong_size) × (after ≡ before)
  pub large : room ≤ length before
      → (r ≡ length (report_of file)) × (r ≤ room) × (take r after ≡ report_of file) × (drop room after ≡ drop room before)

-- An answer of the checker of retry loops as a number. 01: "If the answer is an enum, a definition provides this paper's number and values for each of
-- its cases. The promises use that definition." 0, 2 and 6 are loopRefusal's; a rejection's place and reason
-- are put into one number.
abbrev pub loop_number : LoopAnswer → ℕ
loop_number Accepted = loop_refusal Accepted
loop_number (Rejected place reason) = 256 * (place + 1) + reason
loop_number (Refused number) = loop_refusal (Refused number)

-- what floecavern_check_loop answers to the bytes of a block's words, under the default settings, and floecavern_check_loop_for, under the version and kind
-- that it is given; bytes that aren't whole words are told before a refusal
unfoldable pub loop_answer : Settings → List ℕ → ℕ
loop_answer settings bytes = cond (eqb (length bytes % 4) 0) (loop_number (check_of settings (words_of bytes (length bytes / 4)))) wrong_size
