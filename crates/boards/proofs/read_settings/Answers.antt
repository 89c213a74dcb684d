use Rattle.std.specs.Prelude.{Ok}
use mathlib.Core.Path.{◌≡◌, sym, ap, ap₂, ◌∙◌}
use mathlib.Core.Bool.{Bool, true}
use Prim.Native.Nat.{ℕ}
use native.Mathlib.Omega.{arith}
use mathlib.Core.List.{List}
use Rattle.settings.specs.declared.Board.{Board}
use Rattle.boards.specs.File.{format_of, board_count, format_ok, table_ok, refused_file}
use Rattle.boards.proofs.FileLaws.{first_found, read_short, read_format, read_table, read_by, read_sound}
use Rattle.boards.proofs.read_settings.Goals as goal

-- what is read, behind refusals 22 and the second 21
known : (file : List ℕ) (format : ℕ) → format ≡ format_of file → format_ok format ≡ true → format_ok (format_of file) ≡ true
known file format e k = ap format_ok (sym e) ∙ k

asked : (file : List ℕ) (format count : ℕ) (is : Bool) → format ≡ format_of file → count ≡ board_count file → table_ok file format count ≡ is
    → table_ok file (format_of file) (board_count file) ≡ is
asked file format count is e f t = ap₂ (table_ok file) (sym e) (sym f) ∙ t

pub returns-then-file-lt8 : goal.returns-then-file-lt8
returns-then-file-lt8 c =
    let t = read_sound _ _ (sym (read_short _ c.if-file-lt8.true)) in
    record { value = t.0; kept = t.1 }

pub returns-then-not-format_ok : goal.returns-then-not-format_ok
returns-then-not-format_ok c =
    let t = read_sound _ _ (sym (read_format _ (omega arith) (ap format_ok (sym c.field-format.ensures.value) ∙ sym c.format_ok.ensures ∙ c.if-not-format_ok.true))) in
    record { value = t.0; kept = t.1 }

pub returns-in_default : goal.returns-in_default
returns-in_default c =
    let e = c.field-format.ensures.value in
    let t =
    read_sound _ _
    (sym (read_table _ (omega arith) (known _ _ e (sym c.format_ok.ensures ∙ c.if-not-format_ok.false)) (asked _ _ _ _ e c.field-count.ensures.value c.in_default.ensures))) in
    record { value = t.0; kept = t.1 }

pub start_of-start-requires : goal.start_of-start-requires
start_of-start-requires c =
    let t = c.in-Some.table in
    (t.few, omega (arith, t.few, (first_found _ _ _ (sym c.first_bad.ensures ∙ c.in-Some-first_bad.is)).0))

pub returns-in-Some-first_bad : goal.returns-in-Some-first_bad
returns-in-Some-first_bad c =
    let table = c.in-Some.ensures in
    let e = c.field-format.ensures.value in
    let f = c.field-count.ensures.value in
    let t =
    read_sound _ _
    (ap (refused_file 23) c.start_of-start.ensures
    ∙ sym (read_by _ (omega arith) (known _ _ e (sym c.format_ok.ensures ∙ c.if-not-format_ok.false)) (asked _ _ _ _ e f table.0) _ _ _ (table.2 ∙ e) (table.3 ∙ f)
    (sym c.in-Some-first_bad.is ∙ rw table.1 at c.first_bad.ensures))) in
    record { value = t.0; kept = t.1 }

pub returns : goal.returns
returns c =
    let table = c.in-Some.ensures in
    let it = c.in-Some.table in
    let e = c.field-format.ensures.value in
    let f = c.field-count.ensures.value in
    let boards = rw table.1 at c.boards_in.ensures in
    let t =
    read_sound _ _
    (ap (λ (l : List Board). Ok (record { format = it.format; count = it.count; boards = l })) boards
    ∙ sym (read_by _ (omega arith) (known _ _ e (sym c.format_ok.ensures ∙ c.if-not-format_ok.false)) (asked _ _ _ _ e f table.0) _ _ _ (table.2 ∙ e) (table.3 ∙ f)
    (sym c.in_default-first_bad.is ∙ rw table.1 at c.first_bad.ensures))) in
    record { value = t.0; kept = t.1 }
