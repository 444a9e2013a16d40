-- Which state a power loss leaves after moves that follow one another.
-- serves:
use Rattle.std.proofs.Common.{◌≡◌, ◌⊎◌, ℕ, List, [], ◌∷◌, ◌++◌, refl, sym, ◌∙◌, ap, subst, inl, inr}
use Rattle.std.specs.Fn.{Shared}
use denote.Ref.{Bor}
use Rattle.std.proofs.lemmas.List.{append_assoc}
use Rattle.g_rules.specs.declared.tariff.Usage.{Usage}
use Rattle.g_rules.specs.declared.tariff.Charge.{Charge}
use Rattle.g_rules.specs.declared.rule.Standing.{Standing}
use Rattle.g_store_model.specs.State.{State}
use Rattle.g_tape.specs.Rack.{Rack}
use Rattle.g_store_meaning.specs.Safety.{IsLeft, StandLike}
use Rattle.g_run_model.specs.Devices.{Devices}
use Rattle.g_run_model.specs.Losses.{AsRead, MayBeLeft, OtherEnd, StaysDown, SurvivesLoss}
use Rattle.g_run_model.specs.Moves.{Move, Run}
use Rattle.g_run_model.specs.World.{World}
use Rattle.g_run_model.proofs.TurnLemmas.{run_append}

module _ {F U : Type 0} (tariffs : Shared F (Bor Usage × Unit {0}) Charge) (tariff : F) (rules : Shared U (Bor Standing × Unit {0}) ℕ) (rule : U) where
  abbrev pub Runs : World → List Move → World → Type 0
  Runs w moves new = Run tariffs tariff rules rule w moves new

  abbrev pub Down : World → List Move → World → Type 0
  Down w moves new = StaysDown tariffs tariff rules rule w moves new

  abbrev pub Left : World → List Move → World → State → Type 0
  Left w moves new u = MayBeLeft tariffs tariff rules rule w moves new u

  -- down during the first moves and during the others
  pub down_then : (w mid new : World) (a b : List Move) → Down w a mid → Down mid b new → Down w (a ++ b) new
  down_then w mid new [] b one two = subst (λ (v : World). Down v b new) one two
  down_then w mid new (move ∷ a) b one two = (one.0, one.1, one.2, one.3, down_then one.0 mid new a b one.4 two)

  -- what may be left after the last moves may be left after all
  pub left_behind : (w mid new : World) (a b : List Move) (u : State) → Runs w a mid → Left mid b new u → Left w (a ++ b) new u
  left_behind w mid new a b u one (AsRead before after at last same) =
      AsRead (a ++ before) after at (record {
        split = ap (λ (ms : List Move). a ++ ms) last.split ∙ sym (append_assoc a before after);
        led = run_append tariffs tariff rules rule w a before mid at one last.led;
        rest = last.rest;
      }) same
  left_behind w mid new a b u one (OtherEnd before after stop was at other ran last cut step step' same) =
      OtherEnd (a ++ before) after stop was at other (run_append tariffs tariff rules rule w a before mid was one ran) (record {
        split = ap (λ (ms : List Move). a ++ ms) last.split ∙ sym (append_assoc a (before ++ stop ∷ []) after) ∙ ap (λ (ms : List Move). ms ++ after) (sym (append_assoc a before (stop ∷ [])));
        led = subst (λ (ms : List Move). Runs w ms at) (sym (append_assoc a before (stop ∷ []))) (run_append tariffs tariff rules rule w a (before ++ stop ∷ []) mid at one last.led);
        rest = last.rest;
      }) cut step step' same

  -- what may be left after the first moves may be left after all, if the system stays down
  pub left_before : (w mid new : World) (a b : List Move) (u : State) → Left w a mid u → Down mid b new → Left w (a ++ b) new u
  left_before w mid new a b u (AsRead before after at last same) two =
      AsRead before (after ++ b) at (record {
        split = ap (λ (ms : List Move). ms ++ b) last.split ∙ append_assoc before after b;
        led = last.led;
        rest = down_then at mid new after b last.rest two;
      }) same
  left_before w mid new a b u (OtherEnd before after stop was at other ran last cut step step' same) two =
      OtherEnd before (after ++ b) stop was at other ran (record {
        split = ap (λ (ms : List Move). ms ++ b) last.split ∙ append_assoc (before ++ stop ∷ []) after b;
        led = last.led;
        rest = down_then at mid new after b last.rest two;
      }) cut step step' same

  -- SURVIVING BOTH PARTS
  pub survives_then : (w mid new : World) (a b : List Move) (old now last : Devices) → Runs w a mid → SurvivesLoss tariffs tariff rules rule w a mid old now
      → SurvivesLoss tariffs tariff rules rule mid b new now last → now.disc.size ≡ last.disc.size → SurvivesLoss tariffs tariff rules rule w (a ++ b) new old last
  survives_then w mid new a b old now last one first second size blocks rack left = elim (second blocks rack left) [
    | inl here ↦ inl (here.0, left_behind w mid new a b here.0 one here.1, here.2)
    | inr (two, before) ↦ elim (first blocks rack before) [
      | inl there ↦ inl (there.0, left_before w mid new a b there.0 there.1 two, subst (λ (n : ℕ). StandLike n blocks rack there.0) size there.2)
      | inr (down, at_first) ↦ inr (down_then w mid new a b down two, at_first)
    ]
  ]

  -- no moves, and devices of which a power loss leaves no more
  pub survives_same : (w : World) (old new : Devices) → ((blocks : List (List ℕ)) (rack : Rack) → IsLeft new.disc new.rack blocks rack → IsLeft old.disc old.rack blocks rack)
      → SurvivesLoss tariffs tariff rules rule w [] w old new
  survives_same w old new less blocks rack left = inr (refl, less blocks rack left)
