-- What the call is granted is what the record of its version requires.
use Rattle.std.proofs.Common.{◌≤◌, ap, arith, length, List, ℕ, subst, sym}
use Rattle.g_store_calls.proofs.NextLemmas.{is_next}
use Rattle.g_store_calls.proofs.PutLemmas.{put_granted}
use Rattle.g_store_calls.proofs.putting.version_of.Goals as goal

pub overflow_cast-len : goal.overflow_cast-len
overflow_cast-len g c =
    let short : length c.as_slice.result.now ≤ 65536 = subst (λ (t : List ℕ). length t ≤ 65536) (sym c.as_slice.ensures) (put_granted c.args.online.now c.requires.live c.requires.tied c.args.number c.args.full.now c.args.bytes.now c.requires.granted).short in
    omega (arith, short)

pub next_of-requires-clause-there : goal.next_of-requires-clause-there
next_of-requires-clause-there g c =
    (c.args.full.now, (put_granted c.args.online.now c.requires.live c.requires.tied c.args.number c.args.full.now c.args.bytes.now c.requires.granted).there c.in-Some.number c.in-Some.is)

pub next_of-requires-clause-early : goal.next_of-requires-clause-early
next_of-requires-clause-early g c = (put_granted c.args.online.now c.requires.live c.requires.tied c.args.number c.args.full.now c.args.bytes.now c.requires.granted).early

pub next_of-requires-clause-short : goal.next_of-requires-clause-short
next_of-requires-clause-short g c = subst (λ (t : List ℕ). length t ≤ 65536) (sym c.as_slice.ensures) (put_granted c.args.online.now c.requires.live c.requires.tied c.args.number c.args.full.now c.args.bytes.now c.requires.granted).short

pub first_of-requires-clause-none : goal.first_of-requires-clause-none
first_of-requires-clause-none g c = (put_granted c.args.online.now c.requires.live c.requires.tied c.args.number c.args.full.now c.args.bytes.now c.requires.granted).free c.in-None.is

pub first_of-requires-clause-owner : goal.first_of-requires-clause-owner
first_of-requires-clause-owner g c = (put_granted c.args.online.now c.requires.live c.requires.tied c.args.number c.args.full.now c.args.bytes.now c.requires.granted).owner

pub first_of-requires-clause-few : goal.first_of-requires-clause-few
first_of-requires-clause-few g c = (put_granted c.args.online.now c.requires.live c.requires.tied c.args.number c.args.full.now c.args.bytes.now c.requires.granted).few c.in-None.is

pub first_of-requires-clause-generation : goal.first_of-requires-clause-generation
first_of-requires-clause-generation g c = (put_granted c.args.online.now c.requires.live c.requires.tied c.args.number c.args.full.now c.args.bytes.now c.requires.granted).generation

pub first_of-requires-clause-early : goal.first_of-requires-clause-early
first_of-requires-clause-early g c = (put_granted c.args.online.now c.requires.live c.requires.tied c.args.number c.args.full.now c.args.bytes.now c.requires.granted).early

pub first_of-requires-clause-short : goal.first_of-requires-clause-short
first_of-requires-clause-short g c = subst (λ (t : List ℕ). length t ≤ 65536) (sym c.as_slice.ensures) (put_granted c.args.online.now c.requires.live c.requires.tied c.args.number c.args.full.now c.args.bytes.now c.requires.granted).short

pub returns-in-Some-clause-version : goal.returns-in-Some-clause-version
returns-in-Some-clause-version g c =
    c.next_of.ensures.version c.args.full.now ((put_granted c.args.online.now c.requires.live c.requires.tied c.args.number c.args.full.now c.args.bytes.now c.requires.granted).there c.in-Some.number c.in-Some.is)

pub returns-in-Some-clause-next : goal.returns-in-Some-clause-next
returns-in-Some-clause-next g c =
    let put = put_granted c.args.online.now c.requires.live c.requires.tied c.args.number c.args.full.now c.args.bytes.now c.requires.granted in
    is_next c.args.online.now c.args.bytes.now c.args.full.now c.next_of.result (length c.as_slice.result.now)
    (c.next_of.ensures.version c.args.full.now (put.there c.in-Some.number c.in-Some.is)) put.early c.next_of.ensures.len (ap (λ (t : List ℕ). length t) c.as_slice.ensures)

pub returns-in-None-clause-next : goal.returns-in-None-clause-next
returns-in-None-clause-next g c =
    is_next c.args.online.now c.args.bytes.now c.args.full.now c.first_of.result (length c.as_slice.result.now) c.first_of.ensures.version
    (put_granted c.args.online.now c.requires.live c.requires.tied c.args.number c.args.full.now c.args.bytes.now c.requires.granted).early
    c.first_of.ensures.len (ap (λ (t : List ℕ). length t) c.as_slice.ensures)
