use Rattle.std.proofs.Common.{◌≡◌, ℕ, ◌+◌, ◌/◌, List, length, refl, sym, ap, subst, ◌∙◌, arith, length-append}
use Rattle.std.specs.Prelude.{Option}
use Rattle.std.specs.Slice.Iter.{chunks_exact_rest, chunks_exact_size}
use Rattle.std.specs.Iterator.Adapters.{enumerate_count, enumerate_source}
use Rattle.model.specs.Perform.{Machine}
use Rattle.model.specs.Valid.{Valid}
use Rattle.steplog.specs.Row.{reading_of}
use Rattle.steplog.specs.declared.Row.{Row}
use Rattle.rows.specs.Row.{told_of, after_row}
use Rattle.rows.specs.Replay.{readings, end_of, ended}
use Rattle.rows.specs.declared.Stop.TheVariants.{Agreed}
use Rattle.rows.proofs.ToldLaws.{agrees}
use Rattle.rows.proofs.ReplayLaws.{further, further_none, readings_next, end_more, end_stop, valid_stepped, count_stepped}
use Rattle.rows.proofs.replay_rows.Goals as goal

pub loop-i-init : goal.loop-i-init
loop-i-init c =
    let same = c.into_iter-i-iterator.ensures.into_iter_gives in
    let source = c.enumerate-i-items.ensures.source in
    let it = c.into_iter-i-iterator.result in
    let size : chunks_exact_size (enumerate_source it) ≡ 48 = rw (same, source) c.chunks_exact.ensures.size in
    let rest : chunks_exact_rest (enumerate_source it) ≡ c.args.log.now = rw (same, source) c.chunks_exact.ensures.rest in
    let none : enumerate_count it ≡ 0 = rw same c.enumerate-i-items.ensures.count in
    record { size = size; rows = rw (none, rest) (omega arith); count = refl; valid = c.requires; ends = rw (none, rest) (further_none _) }

pub loop-i-preserved : goal.loop-i-preserved
unfolding after_row
loop-i-preserved c =
    let a = c.args in
    let l = c.loop-i in
    let here : Machine = record { state = l.s; mem = l.mem } in
    let count = a.state.count in
    let part = c.in-Some.part.now in
    let step = c.in-Some.ensures.steps in
    let rest = chunks_exact_rest (enumerate_source c.next.new.self) in
    let cuts = step.0.1.0 in
    let long = step.0.1.1 ∙ l.invariant.size in
    let next = step.2 in
    let rows = readings count (length rest / 48) rest in
    let all = ap (λ (log : List ℕ). readings count (length log / 48) log) cuts ∙ readings_next count part rest long in
    let cut = ap (λ (k : ℕ). reading_of k part) l.invariant.count in
    let told = agrees _ c.in_default.not-Err in
    let agreed = ap (told_of a.base here) (sym cut) ∙ sym c.compare.ensures.value ∙ told in
    let after = rw (told, cut) at c.compare.ensures.after in
    let more = end_more a.base here _ rows (enumerate_count l.i-iterator) agreed after in
    record {
      size = step.0.0 ∙ l.invariant.size;
      rows = omega (arith, next, l.invariant.rows, ap length cuts, length-append part rest, long);
      count = ap (λ (m : Machine). m.state.count) after ∙ count_stepped a.base here _ ∙ l.invariant.count;
      valid = subst (Valid a.base) (sym after) (valid_stepped a.base here l.invariant.valid _);
      ends =
          rw next more
          ∙ ap (λ (rs : List (Option Row)). further (enumerate_count l.i-iterator) (end_of a.base here rs)) (sym all)
          ∙ l.invariant.ends;
    }

pub returns-in-Err : goal.returns-in-Err
unfolding after_row
returns-in-Err c =
    let a = c.args in
    let l = c.loop-i in
    let here : Machine = record { state = l.s; mem = l.mem } in
    let count = a.state.count in
    let part = c.in-Some.part.now in
    let step = c.in-Some.ensures.steps in
    let rest = chunks_exact_rest (enumerate_source c.next.new.self) in
    let long = step.0.1.1 ∙ l.invariant.size in
    let all = ap (λ (log : List ℕ). readings count (length log / 48) log) step.0.1.0 ∙ readings_next count part rest long in
    let cut = ap (λ (k : ℕ). reading_of k part) l.invariant.count in
    let stops = ap (told_of a.base here) (sym cut) ∙ sym c.compare.ensures.value ∙ c.in-Err.is in
    let same = rw c.in-Err.is at c.compare.ensures.after in
    let here_ends =
    end_stop a.base here _ (readings count (length rest / 48) rest) (enumerate_count l.i-iterator) stops
    ∙ ap (λ (rs : List (Option Row)). further (enumerate_count l.i-iterator) (end_of a.base here rs)) (sym all)
    ∙ l.invariant.ends in
    rw step.1 (ap (λ (m : Machine). ended (record { stop = c.in-Err.stop; rows = enumerate_count l.i-iterator; machine = m })) same ∙ ap ended here_ends)

pub returns : goal.returns
unfolding readings end_of
returns c =
    let a = c.args in
    let l = c.loop-i in
    let few = c.in-None.ensures.steps.0.1.0 in
    let rest = chunks_exact_rest (enumerate_source l.i-iterator) in
    let z : length rest / 48 ≡ 0 = omega (arith, few, l.invariant.size) in
    let all : length a.log.now / 48 ≡ enumerate_count l.i-iterator + 0 = omega (arith, z, l.invariant.rows) in
    let here : Machine = record { state = l.s; mem = l.mem } in
    ap ended (ap (λ (k : ℕ). record { stop = Agreed; rows = k; machine = here }) all ∙ rw z at l.invariant.ends)
