use Rattle.std.proofs.Common.{inl, inr, refl}
use Rattle.g_look.proofs.bytes.differing.Goals as goal

pub returns-in-Some-clause-some : goal.returns-in-Some-clause-some
returns-in-Some-clause-some c =
    record { s = c.in-Some.ensures.differ.0; t = _; one_is = c.in-Some.ensures.differ.1; other_is = inl (c.in-Some.ensures.place, refl); differ = c.in-Some.ensures.differ.2 }

pub returns-in-Some-against_disc-clause-some : goal.returns-in-Some-against_disc-clause-some
returns-in-Some-against_disc-clause-some c = record {
  s = c.in-Some-against_disc.ensures.differ.0;
  t = _;
  one_is = c.in-Some-against_disc.ensures.differ.1;
  other_is = inr (c.in-Some-against_disc.ensures.place, refl);
  differ = c.in-Some-against_disc.ensures.differ.2;
}

pub returns-in-Some-against_tape-clause-some : goal.returns-in-Some-against_tape-clause-some
returns-in-Some-against_tape-clause-some c = record {
  s = _;
  t = _;
  one_is = inl (c.in-Some-against_tape.ensures.places.0, refl);
  other_is = inr (c.in-Some-against_tape.ensures.places.1, refl);
  differ = c.in-Some-against_tape.ensures.differ;
}
