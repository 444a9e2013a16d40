use Rattle.std.proofs.Common.{◌≡◌, ◌≤◌, length, arith, ◌∙◌, ap, subst}
use Rattle.g_demo.specs.Words.{IsAsked, texts_of, words_of}
use Rattle.g_demo.specs.declared.words.Asked.{Asked}
use Rattle.g_demo.specs.declared.words.Asked.TheVariants as asked
use Rattle.g_lines.specs.Lines.{lines_of}
use Rattle.g_script.specs.Script.{IsParsed}
use Rattle.g_run.proofs.FilestoreLemmas.{keeps_filestore}
use Rattle.g_ticks.proofs.KeepLemmas.{stay_as}
use Rattle.g_run.proofs.ReadingLemmas.{parsed_few, parsed_within}
use Rattle.g_run.proofs.TopLemmas.{anew_as, arms_as, cut_words, demo_found, ends_as, of_words, quiet_words, survives_as}
use Rattle.g_run.proofs.top.george.Goals as goal

pub returns-clause-ends : goal.returns-clause-ends
returns-clause-ends g c = λ run left told.
    let all = c.in-Ok.ensures.all left told in
    let parsed = subst (λ bytes. IsParsed (lines_of bytes) c.in-Ok-parse_script.parsed.lines c.in-Ok-parse_script.parsed.bad) (c.deref.ensures.value ∙ all.0) c.in-Ok-parse_script.ensures in
    rw c.run_status.ensures
    (ends_as g.F.Fn c.args.tariff.now g.U.Fn c.args.weigh.now c.in-Ok-parse_script.parsed.bad c.run_boxed-disc.result.failure left c.in-Ok-parse_script.parsed.lines _ _ _ _ parsed c.run_boxed-disc.ensures.ends)

pub returns-clause-anew : goal.returns-clause-anew
returns-clause-anew g c = λ run left told.
    let all = c.in-Ok.ensures.all left told in
    let parsed = subst (λ bytes. IsParsed (lines_of bytes) c.in-Ok-parse_script.parsed.lines c.in-Ok-parse_script.parsed.bad) (c.deref.ensures.value ∙ all.0) c.in-Ok-parse_script.ensures in
    rw c.run_status.ensures
    (anew_as g.F.Fn c.args.tariff.now g.U.Fn c.args.weigh.now c.in-Ok-parse_script.parsed.bad c.run_boxed-disc.result.failure left c.in-Ok-parse_script.parsed.lines _ _ _ _ parsed c.requires.size.0 c.run_boxed-disc.ensures.anew)

pub returns-clause-survives : goal.returns-clause-survives
returns-clause-survives g c = λ run safe left told.
    let all = c.in-Ok.ensures.all left told in
    let parsed = subst (λ bytes. IsParsed (lines_of bytes) c.in-Ok-parse_script.parsed.lines c.in-Ok-parse_script.parsed.bad) (c.deref.ensures.value ∙ all.0) c.in-Ok-parse_script.ensures in
    survives_as g.F.Fn c.args.tariff.now g.U.Fn c.args.weigh.now left c.in-Ok-parse_script.parsed.lines c.in-Ok-parse_script.parsed.bad _ _ _ _ parsed (c.run_boxed-disc.ensures.survives safe)

pub returns-clause-arms : goal.returns-clause-arms
returns-clause-arms g c = λ run left told lines bad is.
    let all = c.in-Ok.ensures.all left told in
    let parsed = subst (λ bytes. IsParsed (lines_of bytes) c.in-Ok-parse_script.parsed.lines c.in-Ok-parse_script.parsed.bad) (c.deref.ensures.value ∙ all.0) c.in-Ok-parse_script.ensures in
    rw c.run_status.ensures
    (arms_as left lines c.in-Ok-parse_script.parsed.lines bad c.in-Ok-parse_script.parsed.bad c.run_boxed-disc.result.failure _ _ parsed is c.run_boxed-disc.ensures.arms)

pub returns-clause-dumps : goal.returns-clause-dumps
returns-clause-dumps g c = λ both. (c.run_boxed-disc.ensures.dumps both).move

pub returns-clause-stay : goal.returns-clause-stay
returns-clause-stay g c = λ both left told lines bad is none.
    let all = c.in-Ok.ensures.all left told in
    let parsed = subst (λ bytes. IsParsed (lines_of bytes) c.in-Ok-parse_script.parsed.lines c.in-Ok-parse_script.parsed.bad) (c.deref.ensures.value ∙ all.0) c.in-Ok-parse_script.ensures in
    stay_as left lines c.in-Ok-parse_script.parsed.lines bad c.in-Ok-parse_script.parsed.bad _ _ parsed is (c.run_boxed-disc.ensures.dumps both) none

pub returns-clause-stands : goal.returns-clause-stands
returns-clause-stands g c = λ both has.
    keeps_filestore g.F.Fn c.args.tariff.now g.U.Fn c.args.weigh.now c.run_boxed-disc.result.failure c.in-Ok-parse_script.parsed.lines c.in-Ok-parse_script.parsed.bad _ _ _ _ c.run_boxed-disc.ensures.ends both has

pub run_boxed-disc-requires-clause-within : goal.run_boxed-disc-requires-clause-within
run_boxed-disc-requires-clause-within g c = parsed_within _ _ _ c.in-Ok-parse_script.ensures

pub run_boxed-disc-requires-clause-few : goal.run_boxed-disc-requires-clause-few
run_boxed-disc-requires-clause-few g c =
    let few : length c.in-Ok-parse_script.parsed.lines ≤ length c.deref.result.now = parsed_few _ _ _ c.in-Ok-parse_script.ensures in
    let same : length c.deref.result.now ≡ length c.in-Ok.bytes.items = ap length c.deref.ensures.value in
    let short = c.in-Ok.ensures.short in
    omega (arith, few, same, short)

-- words that ask for nothing
pub returns-in-None-clause-known : goal.returns-in-None-clause-known
returns-in-None-clause-known g c = λ run. absurd (c.in-None.ensures asked.Run tt run)

pub returns-in-None-clause-long : goal.returns-in-None-clause-long
returns-in-None-clause-long g c = λ left told run more. absurd (c.in-None.ensures asked.Run tt run)

pub returns-in-None-clause-complete : goal.returns-in-None-clause-complete
returns-in-None-clause-complete g c = λ left told run few source sink. absurd (c.in-None.ensures asked.Run tt run)

pub returns-in-None-clause-enough : goal.returns-in-None-clause-enough
returns-in-None-clause-enough g c = λ nothing. rw c.words_status.ensures (of_words c.put_words-failure.result c.put_words-failure.ensures.memory)

pub returns-in-None-clause-quiet : goal.returns-in-None-clause-quiet
returns-in-None-clause-quiet g c = rw c.words_status.ensures (quiet_words c.put_words-failure.result _ _ _ c.put_words-failure.ensures.puts.put)

pub returns-in-None-clause-ends : goal.returns-in-None-clause-ends
returns-in-None-clause-ends g c = λ run left told. absurd (c.in-None.ensures asked.Run tt run)

pub returns-in-None-clause-anew : goal.returns-in-None-clause-anew
returns-in-None-clause-anew g c = λ run left told. absurd (c.in-None.ensures asked.Run tt run)

pub returns-in-None-clause-survives : goal.returns-in-None-clause-survives
returns-in-None-clause-survives g c = λ run safe left told. absurd (c.in-None.ensures asked.Run tt run)

pub returns-in-None-clause-words : goal.returns-in-None-clause-words
returns-in-None-clause-words g c = λ nothing. cut_words c.put_words-failure.result _ _ _ c.put_words-failure.ensures.puts.put

pub returns-in-None-clause-demo : goal.returns-in-None-clause-demo
returns-in-None-clause-demo g c = λ demo is name. absurd (c.in-None.ensures (asked.Demo demo) is name)

-- those of a demonstration
pub returns-in-Some-Demo-clause-demo : goal.returns-in-Some-Demo-clause-demo
returns-in-Some-Demo-clause-demo g c = λ demo is name.
    let (found, are) = subst (λ (a : Asked). IsAsked a × (texts_of c.args.words.now ≡ words_of a)) c.in-Some-Demo.field-0-is c.in-Some-Demo.ensures in
    rw c.demo_status.ensures
    (demo_found g.F.Fn c.args.tariff.now g.U.Fn c.args.weigh.now (texts_of c.args.words.now) c.in-Some-Demo.demo demo found is are name c.run_demo-failure.result _ _ _ c.run_demo-failure.ensures.put)
