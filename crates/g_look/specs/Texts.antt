-- THE TEXTS OF A VERSION, on the disc and at up to two places on tape.
use Rattle.std.specs.Prelude.{◌≡◌, ◌≢◌, ◌⊎◌, ℕ, ◌≤◌, List, length, take, drop, Contains, Option, Some, None, IfSome}
use Rattle.std.specs.Option.{ForSome, option_map}
use Rattle.g_base.specs.Block.{blocks_for}
use Rattle.g_copy.specs.Copy.{bytes_at}
use Rattle.g_copy.specs.declared.copy.DiscCopy.{DiscCopy}
use Rattle.g_entry.specs.declared.file_rec.FileRec.{FileRec}
use Rattle.g_entry.specs.declared.file_rec.TapeCopy.{TapeCopy}
use Rattle.g_entry.specs.declared.user_rec.UserRec.{UserRec}
use Rattle.g_dirs.specs.Directory.{copy_at}
use Rattle.g_tape.specs.Reel.{Reel}
use Rattle.g_tree.specs.Records.{full_of}
use Rattle.g_store_meaning.specs.Meaning.{joined}
use Rattle.g_look.specs.declared.broken.Broken.{Broken}
use Rattle.g_look.specs.declared.broken.Broken.TheVariants.{Bytes}
use Rattle.g_look.specs.declared.broken.Lie.{Lie}
use Rattle.g_look.specs.declared.broken.Lie.TheVariants.{Disc, Tape}

-- The `len` bytes from the place on, on the reel of that serial, if there is one, it exposes its blocks, and the place isn't past the longest reel.
abbrev pub IsTapeText : List Reel → TapeCopy → ℕ → List ℕ → Type 0
IsTapeText reels copy len text = (r : Reel) → Contains reels r → r.serial ≡ copy.serial → ForSome r.blocks (λ blocks. copy.first ≤ 65536
    → text ≡ take len (joined (take (blocks_for len) (drop copy.first blocks))))

-- The bytes of this copy on the disc, if the disc exposes its blocks.
abbrev pub IsDiscText : Option (List (List ℕ)) → Option DiscCopy → Option (List ℕ) → Type 0
IsDiscText held copy text = ForSome held (λ blocks. text ≡ option_map (λ c. bytes_at c.blocks c.len blocks) copy)

-- The place of a dumped record of this stamp, or none if these records have none.
abbrev pub IsDumpedPlace : List FileRec → ℕ → Option TapeCopy → Type 0
IsDumpedPlace dumped stamp None = (of : FileRec) → Contains dumped of → of.stamp ≡ stamp → of.tape ≡ None
IsDumpedPlace dumped stamp (Some copy) = (of : FileRec) × Contains dumped of × (of.stamp ≡ stamp) × (of.tape ≡ Some copy)

-- The second place is the dumped record's, unless that is the first one as well.
abbrev pub IsSecond : Option TapeCopy → Option TapeCopy → Option TapeCopy → Type 0
IsSecond tape place second = (second ≡ place) ⊎ ((second ≡ None) × (place ≡ tape))

-- ALL TEXTS of a version AGREE, as far as there are any.
pub record AgreeAt (reels : List Reel) (len : ℕ) (there : Option (List ℕ)) (first second : Option TapeCopy) : Type 0 where
  pub x : List ℕ
  pub y : List ℕ
  pub first_is : IfSome first (λ c. IsTapeText reels c len x)
  pub second_is : IfSome second (λ c. IsTapeText reels c len y)
  pub disc_first : IfSome there (λ b. IfSome first (λ c. b ≡ x))
  pub disc_second : IfSome there (λ b. IfSome second (λ c. b ≡ y))
  pub both : IfSome first (λ c. IfSome second (λ e. x ≡ y))

-- The text that was read at one of the places.
abbrev pub WasReadAt : List Reel → ℕ → Option (List ℕ) → Option TapeCopy → Option TapeCopy → Lie → List ℕ → Type 0
WasReadAt reels len there first second Disc text = there ≡ Some text
WasReadAt reels len there first second (Tape copy) text = ((first ≡ Some copy) ⊎ (second ≡ Some copy)) × IsTapeText reels copy len text

-- TWO TEXTS of a version DIFFER.
pub record DifferAt (reels : List Reel) (len : ℕ) (there : Option (List ℕ)) (first second : Option TapeCopy) (one other : Lie) : Type 0 where
  pub x : List ℕ
  pub y : List ℕ
  pub one_is : WasReadAt reels len there first second one x
  pub other_is : WasReadAt reels len there first second other y
  pub differ : x ≢ y

-- All texts in memory agree, as far as there are any.
pub record AllAgree (there : Option (List ℕ)) (first : Option TapeCopy) (x : List ℕ) (second : Option TapeCopy) (y : List ℕ) : Type 0 where
  pub disc_first : IfSome there (λ b. IfSome first (λ c. b ≡ x))
  pub disc_second : IfSome there (λ b. IfSome second (λ c. b ≡ y))
  pub both : IfSome first (λ c. IfSome second (λ e. x ≡ y))

-- The text in memory of one of the places.
abbrev pub LiesHere : Option (List ℕ) → Option TapeCopy → List ℕ → Option TapeCopy → List ℕ → Lie → List ℕ → Type 0
LiesHere there first x second y Disc text = there ≡ Some text
LiesHere there first x second y (Tape copy) text = ((first ≡ Some copy) × (text ≡ x)) ⊎ ((second ≡ Some copy) × (text ≡ y))

-- The texts in memory of two places differ.
pub record TwoDiffer (there : Option (List ℕ)) (first : Option TapeCopy) (x : List ℕ) (second : Option TapeCopy) (y : List ℕ) (one other : Lie) : Type 0 where
  pub s : List ℕ
  pub t : List ℕ
  pub one_is : LiesHere there first x second y one s
  pub other_is : LiesHere there first x second y other t
  pub differ : s ≢ t

-- The texts of a file that were compared.
pub record AreCompared (held : Option (List (List ℕ))) (online : List (ℕ × DiscCopy)) (dumped : List FileRec) (r : FileRec) (there : Option (List ℕ)) (second : Option TapeCopy) : Type 0 where
  pub there_is : IsDiscText held (copy_at online r.number) there
  pub long : IfSome there (λ bytes. length bytes ≡ r.len)
  pub place : Option TapeCopy
  pub place_is : IsDumpedPlace dumped r.stamp place
  pub second_is : IsSecond r.tape place second

-- All texts of a file's version agree.
pub record FileAgrees (held : Option (List (List ℕ))) (reels : List Reel) (online : List (ℕ × DiscCopy)) (dumped : List FileRec) (r : FileRec) : Type 0 where
  pub there : Option (List ℕ)
  pub second : Option TapeCopy
  pub compared : AreCompared held online dumped r there second
  pub agree : AgreeAt reels r.len there r.tape second

-- The texts of a file's version at two places differ.
pub record FileDiffers (held : Option (List (List ℕ))) (reels : List Reel) (online : List (ℕ × DiscCopy)) (dumped : List FileRec) (r : FileRec) (one other : Lie) : Type 0 where
  pub there : Option (List ℕ)
  pub second : Option TapeCopy
  pub compared : AreCompared held online dumped r there second
  pub differ : DifferAt reels r.len there r.tape second one other

-- Rule 12 is broken by this file, at two of its places.
abbrev pub AreBytesOther : Option (List (List ℕ)) → List Reel → List (ℕ × DiscCopy) → List FileRec → List UserRec → List FileRec → Broken → Type 0
AreBytesOther held reels online dumped users files (Bytes full stamp one other) =
    (r : FileRec) × Contains files r × (full_of users r ≡ full) × (r.stamp ≡ stamp) × FileDiffers held reels online dumped r one other
AreBytesOther held reels online dumped users files broken = ⊥
