use Rattle.std.proofs.Common.{List, ℕ, Bool, length, slice_get, refl, sym, ap, ◌∙◌, arith}
use Rattle.std.proofs.lemmas.Option.{slice_get_read}
use Rattle.g_entry.specs.declared.format.Format.TheVariants.{Two}
use Rattle.g_entry.specs.UserFields.{held_byte, user_block}
use Rattle.g_incr.specs.Layout.{holds}
use Rattle.g_incr.specs.Plan.{Plan}
use Rattle.g_incr.proofs.PieceLemmas.{user_ready}
use Rattle.g_incr.proofs.writer.Writer.user.Goals as goal

pub returns : goal.returns
returns c =
    let u = c.index-user.result.now in
    let users = c.self.inside.users.items in
    let long = ap (λ (q : Plan). length q.users) c.self.view_is in
    user_ready c.args.self.now c.args.i u c.encode_user_held.result
    (ap (λ (q : Plan). slice_get q.users c.args.i) (sym c.self.view_is) ∙ slice_get_read users (length users) c.args.i u refl (omega arith) c.index-user.ensures)
    (c.encode_user_held.ensures ∙ ap (λ (b : Bool). user_block Two (held_byte b) u)
    (c.is_held-held.ensures ∙ ap (λ (hs : List ℕ). holds hs u.number) c.as_slice.ensures.value ∙ ap (λ (q : Plan). holds q.held u.number) c.self.view_is))
