-- What was written, one text after another.
-- serves: JobLemmas, LineLemmas, UpLemmas, crates above
use Rattle.std.proofs.Common.{◌≡◌, ℕ, ◌++◌, List, [], Option, Some, None, append_assoc, append-nil, refl, sym, ◌∙◌, ap, take}
use Rattle.g_io.specs.Streams.{HasPutPart, with_more}
use Rattle.g_plain.specs.declared.faults.StoreFault.{StoreFault}
use Rattle.g_plain.specs.declared.faults.StoreFault.TheVariants.{NoMemory, Stopped}
use Rattle.g_job_table.specs.Crew.{CrewState}
use Rattle.g_day.specs.declared.progress.Failure.{Failure}
use Rattle.g_day.specs.Puts.{HasGrown, Puts, PutsBy}
use Rattle.g_day.specs.Telling.{TellsFault}

pub with_more-append : (before : Option (List ℕ)) (a b : List ℕ) → with_more (with_more before a) b ≡ with_more before (a ++ b)
with_more-append (Some bytes) a b = ap (λ t. Some t) (append_assoc bytes a b)
with_more-append None a b = refl

pub with_more-nil : (before : Option (List ℕ)) → with_more before [] ≡ before
with_more-nil (Some bytes) = ap (λ t. Some t) (append-nil bytes)
with_more-nil None = refl

-- SOME TEXT WAS WRITTEN
pub same_grown : (before after : Option (List ℕ)) → after ≡ before → HasGrown before after
same_grown before after same = record { more = []; put = same ∙ sym (with_more-nil before) }

pub grown_then : (before middle after : Option (List ℕ)) → HasGrown before middle → HasGrown middle after → HasGrown before after
grown_then before middle after first later = record {
  more = first.more ++ later.more;
  put = later.put ∙ ap (λ (t : Option (List ℕ)). with_more t later.more) first.put ∙ with_more-append before first.more later.more;
}

pub part_grown : (before : Option (List ℕ)) (text : List ℕ) (after : Option (List ℕ)) → HasPutPart before text after → HasGrown before after
part_grown before text after part = record { more = take part.0 text; put = part.2 }

pub put_grown : (failure : Option Failure) (text : List ℕ) (before after : Option (List ℕ)) → PutsBy failure text before after → HasGrown before after
put_grown None text before after put = record { more = text; put = put }
put_grown (Some failure) text before after put = part_grown before text after put

pub puts_grown : {failure : Option Failure} {text : List ℕ} {before after : Option (List ℕ)} {old new : ℕ} → Puts failure text before after old new → HasGrown before after
puts_grown {failure = failure} {text = text} {before = before} {after = after} puts = put_grown failure text before after puts.put

pub told_grown : (fault : StoreFault) (count : ℕ) (c : CrewState) (failure : Option Failure) (c' : CrewState) (before after : Option (List ℕ)) (old new : ℕ) → TellsFault fault count c failure c' before after old new
    → HasGrown before after
told_grown NoMemory count c failure c' before after old new tells = same_grown before after tells.2
told_grown Stopped count c failure c' before after old new tells = puts_grown tells.1
told_grown fault count c failure c' before after old new tells = puts_grown tells.1
