use Rattle.std.proofs.Common.{◌≡◌, ℕ, Bool, true, false, arith, rules, tests}
use Rattle.std.proofs.lemmas.Iterator.{first_from_Range}
use Rattle.settings.specs.Boards.{board_ok}
use Rattle.boards.specs.File.{board_in}
use Rattle.boards.proofs.FileLaws.{first_of}
use Rattle.boards.proofs.first_bad.Goals as goal

pub returns : goal.returns
returns c =
    let t = c.args.table in
    let p : ℕ → Bool = λ k. board_ok (board_in t.file.now t.format t.count k) in
    first_of p t.count c.find.result
    (first_from_Range _ _ _ _ (λ i. p i ≡ false) (λ i. p i ≡ true) c.find.ensures.ran
    (λ x q k. grind (arith, tests))
    (λ x q k. (search rules, grind (arith, tests))))
