use Rattle.std.proofs.Common.{◌≡◌, ◌-◌, false, ap, arith}
use Rattle.std.specs.Prelude.{nat_lt}
use Rattle.std.proofs.lemmas.Bool.{le-ltb}
use Rattle.g_peri.specs.Transfer.{Area}
use Rattle.g_peri.proofs.units.Units.write.Goals as goal

pub returns-clause-answered : goal.returns-clause-answered
returns-clause-answered c =
    let unit = c.args.control.now.unit in
    let number = ap (λ (a : Area). a.unit) c.control.view_is in
    let apart : nat_lt unit 8 ≡ false = le-ltb unit 8 c.requires.writer in
    let place : c.place-place.result ≡ unit - 8 = omega (arith, c.place-place.ensures.writer, number) in
    let appended = rw (c.as_slice.ensures.value, c.added.ensures, place) at (c.append.ensures.written c.args.program.now) in
    rw apart appended
