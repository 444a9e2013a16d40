-- The laws of sessions.
use Rattle.std.specs.Prelude.{◌≡◌, ◌++◌, ◌∷◌, ℕ, true, List, All, Option, None}
use Rattle.std.specs.Fn.{Shared}
use denote.Ref.{Bor}
use Rattle.g_rules.specs.declared.tariff.Charge.{Charge}
use Rattle.g_rules.specs.declared.tariff.Usage.{Usage}
use Rattle.g_rules.specs.Rule.{IsWeighRule}
use Rattle.g_rules.specs.declared.rule.Standing.{Standing}
use Rattle.g_script.specs.Script.{IsParsed}
use Rattle.g_script.specs.declared.operator.Timed.{Timed}
use Rattle.g_store_model.specs.State.{State}
use Rattle.g_run_model.specs.Laws.{HasDumped, IsPlain, charges_of}
use Rattle.g_run_model.specs.Moves.{Move, Run}
use Rattle.g_run_model.specs.World.{World, start}
use Rattle.g_laws_sessions.specs.Asked.{AreOwnLines}
use Rattle.g_laws_sessions.specs.Session.{Comes, Exchange, Exchanges, IsOwn, Moment, Nothing, Own, Piece, Then, Told, Took, taken, text_in, told_in}
use Rattle.g_typing.specs.Typed.{AtTime}

-- A SCRIPT IS TYPED, each item with its time: the session is the run of that script, with the times that were typed
abbrev pub IsScript : Exchanges → Type 0
IsScript Nothing = Unit {0}
IsScript (Then said (Took item AtTime)) = IsScript said
IsScript (Then said exchange) = ⊥

-- THE CONSOLE'S OWN LINES in a session's text consist of lines that begin with `?` and a space
abbrev pub IsMarked : Piece → Type 0
IsMarked (Told text) = Unit {0}
IsMarked (Own text) = AreOwnLines text

abbrev pub OwnLinesAreMarked : Type 0
OwnLinesAreMarked = (piece : Piece) → IsOwn piece → IsMarked piece

module _ {F U : Type 0} (tariffs : Shared F (Bor Usage × Unit {0}) Charge) (tariff : F) (rules : Shared U (Bor Standing × Unit {0}) ℕ) (rule : U) where
  -- A SESSION IS A RUN of its script, to the same world, whose text is what was printed without the console's own lines
  pub record IsRunOf (s : State) (said : Exchanges) (now : Moment) : Type 0 where
    pub run : Run tariffs tariff rules rule (start (taken said) None s) now.moves now.world
    pub pieces : List Piece
    pub all : now.text ≡ text_in pieces
    pub told : now.world.text ≡ told_in pieces
    pub own : All IsOwn pieces

  abbrev pub SessionsAreRuns : Type 0
  SessionsAreRuns = (s : State) (said : Exchanges) (now : Moment) → Comes tariffs tariff rules rule s said now → IsRunOf s said now

  -- A SESSION IS REPLAYED by a run of its script: if no event failed in either, and turns were charged alike, both print the same text, except for the
  -- console's own lines
  abbrev pub SessionsAreReplayed : Type 0
  SessionsAreReplayed = (s : State) (said : Exchanges) (now : Moment) (rest others : List Move) (last other : World) → IsWeighRule rules rule → HasDumped s
      → Comes tariffs tariff rules rule s said now → Run tariffs tariff rules rule now.world rest last → Run tariffs tariff rules rule (start (taken said) None s) others other
      → last.over ≡ true → other.over ≡ true → All IsPlain (now.moves ++ rest) → All IsPlain others → charges_of (now.moves ++ rest) ≡ charges_of others → other.text ≡ last.text

  pub record IsRunOfScript (s : State) (now : Moment) : Type 0 where
    pub lines : List Timed
    pub parsed : IsParsed now.lines lines None
    pub run : Run tariffs tariff rules rule (start lines None s) now.moves now.world

  abbrev pub ScriptsAreSessions : Type 0
  ScriptsAreSessions = (s : State) (said : Exchanges) (now : Moment) → Comes tariffs tariff rules rule s said now → IsScript said → IsRunOfScript s now
