use Rattle.std.proofs.Common.{subst}
use Rattle.word.specs.Memory.{part}
use Rattle.casefile.specs.Case.{SoundCase}
use Rattle.case_replay.specs.CaseReplay.{file_replay_on}
use Rattle.case_replay.proofs.FileLaws.{lent_body}
use Rattle.case_replay.proofs.replay_case_on.Goals as goal

pub returns-in-Ok : goal.returns-in-Ok
unfolding file_replay_on part
returns-in-Ok c =
    let k = c.read_case_on in
    let r = c.replay in
    let t = subst (SoundCase c.args.file.now) c.in-Ok.is k.ensures.sound_case in record {
      value = rw (← k.ensures.value, c.in-Ok.is) r.ensures.value;
      file_after = rw (← k.ensures.value, c.in-Ok.is) (lent_body _ _ _ _ _ t.1 t.2 r.auto.mem r.ensures.mem_after);
    }
