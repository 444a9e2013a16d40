use Rattle.std.proofs.Common.{◌≡◌, ℕ, List, [], ◌∷◌, ◌++◌, length, take, ap, ◌∙◌}
use Rattle.std.specs.List.{flat_map}
use Rattle.g_entry.specs.FileFields.{pair_fields}
use Rattle.g_entry.proofs.FieldLemmas.{pair_bytes, traps_put}
use Rattle.g_entry.proofs.put.put_traps.Goals as goal

pub returns-clause-fields : goal.returns-clause-fields
returns-clause-fields c =
    let before = c.args.writer.now in
    let given = c.others-others.result.now in
    let i = c.loop-user.user-index in
    let written : c.loop-user.writer ≡ ((before ++ c.args.traps.now.owner ∷ []) ++ length given ∷ []) ++ flat_map pair_bytes (take i given) =
    c.loop-user.invariant.fields
    ∙ ap (λ (t : List ℕ). t ++ flat_map pair_bytes (take i given))
    (c.put_u8-2.ensures ∙ ap (λ (t : List ℕ). t ++ length given ∷ []) (c.put_u8.ensures ∙ ap (λ (owner : ℕ). before ++ owner ∷ []) (c.bits.ensures.value ∙ c.owner_modes.ensures))) in
    traps_put before c.loop-user.writer c.put_zeros.new.self c.args.traps.now.owner (length given) i given written c.loop-user-test.false c.put_zeros.ensures
    ∙ ap (λ (others : List (ℕ × ℕ)). (before ++ (c.args.traps.now.owner ∷ length others ∷ [])) ++ pair_fields others) c.others-others.ensures.value
