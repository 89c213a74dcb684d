use Rattle.std.proofs.Common.{◌≡◌, refl, lt-ltb}
use borrow.Author.Tests.{le-ltb}
use Rattle.model.specs.Act.{refuse, release, apply, leaves}
use Rattle.model.specs.Perform.{Machine, step_of, of_exec, device_of, act_on}
use Rattle.model.proofs.AdvanceLaws.{advances}
use Rattle.model.proofs.advance.advance.Goals as goal

pub returns-then-hart-s : goal.returns-then-hart-s
unfolding act_on
returns-then-hart-s c =
    let a = c.args in
    let m : Machine = record { state = a.s.now; mem = a.mem.now } in
    let h = c.in-Step.hart in
    let is : act_on a.base m.mem m.state a.e ≡ of_exec h (step_of a.base m.mem m.state h) = rw (c.in-Step.is, lt-ltb _ _ c.if-hart-s.true) in
    advances a.base m c.requires a.e is c.step_hart.ensures

pub returns-else-hart-s : goal.returns-else-hart-s
unfolding act_on apply leaves
returns-else-hart-s c =
    let a = c.args in
    let m : Machine = record { state = a.s.now; mem = a.mem.now } in
    let is : act_on a.base m.mem m.state a.e ≡ refuse 3 = rw (c.in-Step.is, le-ltb _ _ c.if-hart-s.false) in
    advances a.base m c.requires a.e is (record { reply = c.broke_none.ensures; state = refl; memory = refl })

pub returns-in-Device : goal.returns-in-Device
unfolding act_on
returns-in-Device c =
    let a = c.args in
    let m : Machine = record { state = a.s.now; mem = a.mem.now } in
    let d = c.in-Device in
    let is : act_on a.base m.mem m.state a.e ≡ device_of a.base m.mem d.addr d.size d.value = rw d.is in
    advances a.base m c.requires a.e is c.write_device.ensures

pub returns-then-hart-s-2 : goal.returns-then-hart-s-2
unfolding act_on leaves
returns-then-hart-s-2 c =
    let a = c.args in
    let m : Machine = record { state = a.s.now; mem = a.mem.now } in
    let done = c.release_hart.ensures in
    let is : act_on a.base m.mem m.state a.e ≡ release c.in-Yield.hart = rw (c.in-Yield.is, lt-ltb _ _ c.if-hart-s-2.true) in
    advances a.base m c.requires a.e is (record { reply = done.reply; state = done.state_after; memory = refl })

pub returns-else-hart-s-2 : goal.returns-else-hart-s-2
unfolding act_on apply leaves
returns-else-hart-s-2 c =
    let a = c.args in
    let m : Machine = record { state = a.s.now; mem = a.mem.now } in
    let is : act_on a.base m.mem m.state a.e ≡ refuse 3 = rw (c.in-Yield.is, le-ltb _ _ c.if-hart-s-2.false) in
    advances a.base m c.requires a.e is (record { reply = c.broke_none-in-Yield.ensures; state = refl; memory = refl })
