use Rattle.std.proofs.Common.{List, ℕ, sym, subst}
use Rattle.g_day.specs.Puts.{Puts}
use Rattle.g_typing.specs.declared.query.Query.{Query}
use Rattle.g_session.specs.Exchanging.{AnswersBoth}
use Rattle.g_session.specs.Standing.{seen_text}
use Rattle.g_session.proofs.StandingLemmas.{explains, stands_beside, stands_by}
use Rattle.g_session.proofs.answering.answer_query.Goals as goal

pub returns-in-State : goal.returns-in-State
returns-in-State g c =
    let text = seen_text c.args.day.now c.args.serials.now in (
      text,
      subst (λ (q : Query). AnswersBoth q c.args.day.now text) (sym c.in-State.is) (record {
        here = λ w m. stands_by c.args.day.now.system c.args.day.now.crew c.args.day.now.count c.args.serials.now c.requires.ready c.requires.reels w m;
        aside = λ blank w m. stands_beside c.args.day.now.system c.args.day.now.crew c.args.day.now.count c.args.serials.now c.requires.ready c.requires.reels blank w m;
      }),
      c.put_made.ensures text c.state_text.ensures,
    )

pub returns-in-Help : goal.returns-in-Help
returns-in-Help g c =
    let own = explains c.help_text.result c.help_text.ensures in (
      own.text,
      subst (λ (q : Query). AnswersBoth q c.args.day.now own.text) (sym c.in-Help.is) (record { here = λ w m. own.own; aside = λ blank w m. own.own }),
      c.put_made-in-Help.ensures own.text own.made_is,
    )

pub returns-in-Refusal : goal.returns-in-Refusal
returns-in-Refusal g c =
    let own = explains c.refusal_text.result c.refusal_text.ensures in (
      own.text,
      subst (λ (q : Query). AnswersBoth q c.args.day.now own.text) (sym c.in-Refusal.is) (record { here = λ w m. own.own; aside = λ blank w m. own.own }),
      c.put_made-in-Refusal.ensures own.text own.made_is,
    )
