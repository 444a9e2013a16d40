use Rattle.g_entry.proofs.FieldLemmas.{PlacesSo}
use Rattle.g_entry.proofs.take.take_places.Given as goal

abbrev pub invariant-loop-place : goal.invariant-loop-place
invariant-loop-place l = PlacesSo l.format l.len l.initial.reader l._place l.reader l.places
