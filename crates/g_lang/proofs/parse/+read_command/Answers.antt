use Rattle.std.proofs.Common.{Option, Some, ◌≡◌, ◌∙◌, ◌≤◌, ◌<◌, ap, sym, subst, arith, length, List, ℕ, codes}
use Rattle.g_lang.specs.Lines.{IsCommandText, Said, SaidIf}
use Rattle.g_lang.specs.LineReader.{cond_read, command_read}
use Rattle.g_lang.specs.Meaning.{said_inside}
use Rattle.g_lang.specs.declared.line.Command.{Command}
use Rattle.g_lang.proofs.ReadLemmas.{if-inside, goto-label, verb-text}
use Rattle.g_lang.proofs.ParseLemmas.{behind-length, if-read, whenever-read, verb-reads}
use Rattle.g_lang.proofs.parse.+read_command.Goals as goal

pub read_command-requires : goal.read_command-requires
read_command-requires t c =
    let less : length c.split_condition.result.1.now < t =
    omega (arith, c.decreases, c.split_condition.ensures.shorter, behind-length (codes "IF ") c.args.text.now c.in-Some.rest.now c.in-Some.ensures) in
    (less, subst IsCommandText (sym c.split_condition.ensures.behind) (if-inside c.args.text.now c.in-Some.rest.now c.requires c.in-Some.ensures))

pub returns-in-Some : goal.returns-in-Some
returns-in-Some t c n enough =
    let same : c.in_ok-inner-2.inner.value ≡ c.in_ok-inner.inner = c.in_ok-inner-2.ensures.ok in
    ap (λ (inner : Command). let o : Option Said = Some (SaidIf c.in_ok-cond.cond (said_inside inner)) in o) same
    ∙ if-read c.args.text.now c.in-Some.rest.now c.in_ok-cond.cond c.in_ok-inner.inner n c.in-Some.ensures enough
    (c.in_ok-cond.ensures ∙ ap cond_read c.split_condition.ensures.before)
    (let shorter = c.split_condition.ensures.shorter in let same_length = ap length c.split_condition.ensures.behind in omega (arith, shorter, same_length))
    (λ m room.
    let room_left : length c.split_condition.result.1.now ≤ m = omega (arith, room, ap length c.split_condition.ensures.behind) in
    c.in_ok-inner.ensures m room_left ∙ ap (λ (ts : List ℕ). let o : Option Said = Some (command_read m ts) in o) c.split_condition.ensures.behind)

pub returns-in-Some-behind : goal.returns-in-Some-behind
returns-in-Some-behind t c n enough =
    whenever-read c.args.text.now c.in-Some-behind.rest.now c.in_ok-cond-2.cond c.in_ok-command.command n c.in_default.ensures c.in-Some-behind.ensures enough
    (c.in_ok-cond-2.ensures ∙ ap cond_read c.split_condition-in-Some-behind.ensures.before)
    (c.in_ok-command.ensures ∙ c.split_condition-in-Some-behind.ensures.behind)

pub unwrap-requires : goal.unwrap-requires
unwrap-requires t c = c.new-in-Some-behind-2.ensures.label.1 (goto-label c.args.text.now c.in-Some-behind-2.label.now c.requires c.in-Some-behind-2.ensures)

pub read_verb-requires : goal.read_verb-requires
read_verb-requires t c =
    let none = c.may_be_keyword.ensures c.if-not-may_be_keyword.true in
    verb-text c.args.text.now c.requires none.0 none.1 none.2

pub returns-then-not-may_be_keyword : goal.returns-then-not-may_be_keyword
returns-then-not-may_be_keyword t c n enough =
    let none = c.may_be_keyword.ensures c.if-not-may_be_keyword.true in
    verb-reads c.args.text.now n c.read_verb.result none.0 none.1 none.2 c.read_verb.ensures

pub read_verb-requires-2 : goal.read_verb-requires-2
read_verb-requires-2 t c = verb-text c.args.text.now c.requires c.in_default.ensures c.in_default-behind.ensures c.in_default-behind-2.ensures

pub returns : goal.returns
returns t c n enough = verb-reads c.args.text.now n c.read_verb-2.result c.in_default.ensures c.in_default-behind.ensures c.in_default-behind-2.ensures c.read_verb-2.ensures
