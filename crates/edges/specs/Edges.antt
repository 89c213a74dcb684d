-- The table (01, "Edges, proved together": "One table of these twelve, one statement over it"). An edge with several parts has several rows.
-- RULES 10.
use Rattle.std.specs.Prelude.{false, List, [], ◌∷◌}
use Rattle.isa.specs.declared.AtomicOp.TheVariants.{Lr, Sc}
use Rattle.isa.specs.declared.Width.TheVariants.{Word}
use Rattle.isa.specs.declared.Instr.TheVariants.{Amo}
use Rattle.events.specs.declared.Event.{Event}
use Rattle.events.specs.declared.Event.TheVariants.{Step, Device}
use Rattle.model.specs.declared.Outcome.TheVariants.{Retired, ScStored, ScFailed, Trap}
use Rattle.retry.specs.declared.LoopAnswer.TheVariants.{Accepted, Rejected}
use Rattle.edges.specs.Edge.{Edge, decodes, runs, checks, ◌at◌is◌, x◌is◌}

abbrev step : Event
step = Step 0

abbrev pub edges : List Edge
edges =
    -- 1. 0x1002A32F is lr.w x6,(x5); 0x1882A3AF is sc.w x7,x8,(x5)
    decodes 0x1002A32F (Amo (record { op = Lr; width = Word; aq = false; rl = false; rd = 6; rs1 = 5; rs2 = 0 }))
    ∷ decodes 0x1882A3AF (Amo (record { op = Sc; width = Word; aq = false; rl = false; rd = 7; rs1 = 5; rs2 = 8 }))
    -- 2. amoadd.w, old 0x7FFFFFFF, rs2 1: memory 0x80000000, rd 0x7FFFFFFF
    ∷ runs (0x0082A3AF ∷ []) ((x 5 is 64) ∷ (x 8 is 1) ∷ []) ((4 at 64 is 0x7FFFFFFF) ∷ []) (step ∷ []) (Retired ∷ [])
    ((x 7 is 0x7FFFFFFF) ∷ []) ((4 at 64 is 0x80000000) ∷ [])
    -- 3. amoadd.w, old 0x80000000, rs2 0xFFFFFFFF00000001: memory 0x80000001, rd 0xFFFFFFFF80000000
    ∷ runs (0x0082A3AF ∷ []) ((x 5 is 64) ∷ (x 8 is 0xFFFFFFFF00000001) ∷ []) ((4 at 64 is 0x80000000) ∷ []) (step ∷ []) (Retired ∷ [])
    ((x 7 is 0xFFFFFFFF80000000) ∷ []) ((8 at 64 is 0x80000001) ∷ [])
    -- 4. Old 0xFFFFFFFF, rs2 1: amomin.w keeps 0xFFFFFFFF, amominu.w leaves 1
    ∷ runs (0x8082A3AF ∷ []) ((x 5 is 64) ∷ (x 8 is 1) ∷ []) ((4 at 64 is 0xFFFFFFFF) ∷ []) (step ∷ []) (Retired ∷ []) [] ((4 at 64 is 0xFFFFFFFF) ∷ [])
    ∷ runs (0xC082A3AF ∷ []) ((x 5 is 64) ∷ (x 8 is 1) ∷ []) ((4 at 64 is 0xFFFFFFFF) ∷ []) (step ∷ []) (Retired ∷ []) [] ((4 at 64 is 1) ∷ [])
    -- 5. amocas.w, old 0x80000000, rd 0x80000000: equal
    ∷ runs (0x2882A3AF ∷ []) ((x 5 is 64) ∷ (x 7 is 0x80000000) ∷ (x 8 is 9) ∷ []) ((4 at 64 is 0x80000000) ∷ []) (step ∷ []) (Retired ∷ [])
    ((x 7 is 0xFFFFFFFF80000000) ∷ []) ((4 at 64 is 9) ∷ [])
    -- 6. amocas.q with rd x0 over sixteen zeros: writes; x1 unchanged
    ∷ runs (0x2882C02F ∷ []) ((x 5 is 64) ∷ (x 1 is 77) ∷ (x 8 is 11) ∷ (x 9 is 12) ∷ []) [] (step ∷ []) (Retired ∷ [])
    ((x 0 is 0) ∷ (x 1 is 77) ∷ []) ((8 at 64 is 11) ∷ (8 at 72 is 12) ∷ [])
    -- 7. amocas.q with rd x5: cause 2
    ∷ runs (0x2882C2AF ∷ []) ((x 5 is 64) ∷ []) [] (step ∷ []) (Trap 2 0x2882C2AF ∷ []) ((x 5 is 64) ∷ []) ((16 at 64 is 0) ∷ [])
    -- 8. lr.w at 64, own sd at 72, sc.w at 64: succeeds
    ∷ runs (0x1002A32F ∷ 0x0082B423 ∷ 0x1882A3AF ∷ []) ((x 5 is 64) ∷ (x 7 is 5) ∷ (x 8 is 9) ∷ []) [] (step ∷ step ∷ step ∷ [])
    (Retired ∷ Retired ∷ ScStored ∷ []) ((x 7 is 0) ∷ []) ((4 at 64 is 9) ∷ (8 at 72 is 9) ∷ [])
    -- 9. lr.d at 64: sc.w at 124 succeeds; at 128 instead, rd is 1
    ∷ runs (0x1002B32F ∷ 0x1884A3AF ∷ []) ((x 5 is 64) ∷ (x 9 is 124) ∷ (x 8 is 9) ∷ []) [] (step ∷ step ∷ []) (Retired ∷ ScStored ∷ [])
    ((x 7 is 0) ∷ []) ((4 at 124 is 9) ∷ [])
    ∷ runs (0x1002B32F ∷ 0x1884A3AF ∷ []) ((x 5 is 64) ∷ (x 9 is 128) ∷ (x 8 is 9) ∷ []) [] (step ∷ step ∷ []) (Retired ∷ ScFailed ∷ [])
    ((x 7 is 1) ∷ []) ((4 at 128 is 0) ∷ [])
    -- 10. lr.w at 64: a device byte at 67 makes the SC fail, at 68 not
    ∷ runs (0x1002A32F ∷ 0x1882A3AF ∷ []) ((x 5 is 64) ∷ (x 8 is 9) ∷ []) [] (step ∷ Device 67 1 0 ∷ step ∷ []) (Retired ∷ Retired ∷ ScFailed ∷ [])
    ((x 7 is 1) ∷ []) ((4 at 64 is 0) ∷ [])
    ∷ runs (0x1002A32F ∷ 0x1882A3AF ∷ []) ((x 5 is 64) ∷ (x 8 is 9) ∷ []) [] (step ∷ Device 68 1 0 ∷ step ∷ []) (Retired ∷ Retired ∷ ScStored ∷ [])
    ((x 7 is 0) ∷ []) ((4 at 64 is 9) ∷ [])
    -- 11. sc.w at 66 after lr.w at 64: cause 6; a following sc.w at 64 succeeds. The trap leaves the pc, so a device puts the following SC there
    ∷ runs (0x1002A32F ∷ 0x1884A3AF ∷ []) ((x 5 is 64) ∷ (x 9 is 66) ∷ (x 8 is 9) ∷ []) [] (step ∷ step ∷ Device 4 4 0x1882A3AF ∷ step ∷ [])
    (Retired ∷ Trap 6 66 ∷ Retired ∷ ScStored ∷ []) ((x 7 is 0) ∷ []) ((4 at 64 is 9) ∷ [])
    -- 12. lr.w x6,(x5); bne +12; sc.w x7,x8,(x5); bne -12: accepted. With lr.w x5,(x5): place 0, reason 4
    ∷ checks (0x1002A32F ∷ 0x00031663 ∷ 0x1882A3AF ∷ 0xFE039AE3 ∷ []) Accepted
    ∷ checks (0x1002A2AF ∷ 0x00031663 ∷ 0x1882A3AF ∷ 0xFE039AE3 ∷ []) (Rejected 0 4)
    ∷ []
