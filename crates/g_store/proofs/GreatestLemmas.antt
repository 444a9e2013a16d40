-- The dump of greatest number: its own records are among those that all dumps give together.
-- serves: StartLemmas
use Rattle.std.proofs.Common.{◌≡◌, ℕ, zero, suc, ◌+◌, List, [], ◌∷◌, get_or, sym, ◌∙◌, ap, arith, subst}
use Rattle.std.specs.Prelude.{true, ◌==◌, All, Contains}
use Rattle.std.proofs.lemmas.Bool.{eq-eqb}
use Rattle.std.proofs.lemmas.List.Elements.{All-cons, All-contains, All-head, All-nil, All-tail, Contains-get_or}
use Rattle.std.proofs.lemmas.Option.{slice_get-get_or}
use Rattle.g_entry.specs.declared.file_rec.FileRec.{FileRec}
use Rattle.g_entry.specs.declared.user_rec.UserRec.{UserRec}
use Rattle.g_incr.specs.Layout.{Dump, IsDump, holds}
use Rattle.g_incr.specs.Plan.{numbered_from, with_number}
use Rattle.g_store_meaning.specs.Belonging.{RackBelongs}
use Rattle.g_store_meaning.specs.Meaning.{DumpedDirectory, Gathers, HasDirectory, files_of}
use Rattle.g_store_meaning.proofs.BelongLemmas.{HasKept}
use Rattle.g_laws_store.proofs.ClosingLemmas.{all_left, all_right, contains_filter}
use Rattle.g_tree.proofs.RecordLemmas.{nobody}

-- the kept users don't depend on numbers
unnumbered : (text : ℕ → List ℕ) (dumps : List Dump) (n : ℕ) (rs : List FileRec) → All (HasKept text dumps) (numbered_from n rs) → All (HasKept text dumps) rs
unnumbered text dumps n [] all = All-nil (HasKept text dumps)
unnumbered text dumps n (r ∷ rs) all =
    let first = All-head (HasKept text dumps) (with_number n r) (numbered_from (n + 1) rs) all in
    All-cons (HasKept text dumps) r rs (record { len = first.len; copy = first.copy })
    (unnumbered text dumps (n + 1) rs (All-tail (HasKept text dumps) (with_number n r) (numbered_from (n + 1) rs) all))

-- the directory of a user, in the dump that it is taken from
record IsPart (P : FileRec → Type 0) (dumps : List Dump) (user : ℕ) : Type 0 where
  source : Dump
  directory : HasDirectory dumps user source
  all : All P (files_of user source.files)

part_of : (P : FileRec → Type 0) (dumps : List Dump) (users : List UserRec) (files : List FileRec) → Gathers dumps users files → All P files → (u : UserRec) → Contains users u → IsPart P dumps u.number
part_of P dumps [] files gathers all u (i, within, is) = let no : ⊥ = omega (arith, within) in absurd no
part_of P dumps (v ∷ vs) files (e, has, rest, are, more) all u (zero, within, is) =
    subst (λ (x : UserRec). IsPart P dumps x.number) is (record { source = e; directory = has; all = all_left P (files_of v.number e.files) rest (subst (All P) are all) })
part_of P dumps (v ∷ vs) files (e, has, rest, are, more) all u (suc i, within, is) =
    part_of P dumps vs rest more (all_right P (files_of v.number e.files) rest (subst (All P) are all)) u (i, omega (arith, within), is)

module _ (dumps : List Dump) (apart : (d e : Dump) → Contains dumps d → Contains dumps e → d.number ≡ e.number → d ≡ e) (t : DumpedDirectory dumps) (rules : IsDump t.last) where
  own_all : (P : FileRec → Type 0) → All P t.gathered → All P t.last.files
  own_all P all i other within =
      let r = get_or t.last.files i other in
      let in_files = Contains-get_or t.last.files i other within in
      let owner = rules.files.owners i other within in
      let u = get_or t.last.users r.owner nobody in
      let number : u.number ≡ r.owner = rules.users.numbered r.owner u (slice_get-get_or t.last.users r.owner nobody owner) in
      let held : holds t.last.held u.number ≡ true = ap (holds t.last.held) number ∙ rules.owners i other within in
      let part = part_of P dumps t.last.users t.gathered t.gathers all u (Contains-get_or t.last.users r.owner nobody owner) in
      let up = part.directory.newest t.last t.greatest.there held in
      let low = t.greatest.greatest part.source part.directory.there in
      let same : part.source ≡ t.last = apart part.source t.last part.directory.there t.greatest.there (omega (arith, up, low)) in
      let here : All P (files_of u.number t.last.files) = subst (λ (x : Dump). All P (files_of u.number x.files)) same part.all in
      All-contains P (files_of u.number t.last.files) r here
      (contains_filter (λ (s : FileRec). s.owner == u.number) t.last.files r in_files (eq-eqb r.owner u.number (sym number)))

-- its records have the texts of their stamps
pub own_kept : (text : ℕ → List ℕ) (dumps : List Dump) → RackBelongs text dumps → (t : DumpedDirectory dumps) → IsDump t.last → All (HasKept text dumps) t.last.files
own_kept text dumps belongs t rules =
    own_all dumps belongs.apart t rules (HasKept text dumps) (unnumbered text dumps 0 t.gathered (belongs.records t))
