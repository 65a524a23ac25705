-- The images of a medium in memory by their names, and its moments.
use Rattle.std.proofs.Common.{◌≡◌, ◌≢◌, ℕ, zero, suc, ◌+◌, ◌-◌, ◌<◌, Bool, true, false, List, [], ◌∷◌, length, get_or, refl, sym, ◌∙◌, ap, subst, arith}
use Rattle.std.specs.Prelude.{cond, not, nat_lt, is_some, Option, Some, None, option_map, bytes_eq, string_bytes, slice_set, slice_get, if◌then◌else◌}
use Rattle.std.specs.List.{remove, position, position_or_len}
use Rattle.std.proofs.lemmas.Bool.{false≢true}
use Rattle.std.proofs.lemmas.Option.{get_or_from_slice_get}
use Rattle.std.proofs.lemmas.Bool.Decides.{nat_tests}
use Rattle.std.proofs.lemmas.Slice.Eq.{bytes_eq-Decides}
use Rattle.std.proofs.lemmas.List.Quantifiers.{position-Some}
use Rattle.disk_model.specs.Disk.{State}
use Rattle.disk_model.specs.Past.{Past, Adds}
use Rattle.mem_disk.specs.Told.{state_of, moments_of}
use Rattle.mem_media.specs.Named.{find_named, fixed_of, later_by, past_since}
use Rattle.mem_media.specs.Lending.{with_named, with_other, SetsImage}
use Rattle.disk_model.specs.Media.{is_name_of}
use Rattle.mem_disk.specs.declared.mem_disk.MemDisk.{MemDisk}
use Rattle.mem_media.specs.declared.mem_media.MemMedia.{MemMedia}
use Rattle.mem_media.specs.declared.named.Named.{Named}

-- the calls of the open disk add to the moments of the medium
pub adds_later : (e : ℕ) (flag : Bool) (old new : Past) (Q : State → Type 0) → Adds old new Q → Adds (later_by e flag old) (later_by e flag new) Q
adds_later e true old new Q adds = record {
  told = adds.told;
  later = λ is. omega (arith, adds.later is);
  each = λ is t s le stood. adds.each is (t - e) s (omega (arith, le)) stood;
}
adds_later e false old new Q adds = record {
  told = λ is. is;
  later = λ is. cc;
  each = λ is t s le stood. cc;
}

-- whether an image has the name
abbrev pub has_name : List ℕ → Named → Bool
has_name name n = bytes_eq (string_bytes n.name) name

-- the first image of the name is found
pub find_first : (ns : List Named) (name : List ℕ) (i : ℕ) (d : Named) → i < length ns → has_name name (get_or ns i d) ≡ true
    → ((k : ℕ) → k < i → has_name name (get_or ns k d) ≡ false) → find_named ns name ≡ Some (state_of (get_or ns i d).disk)
find_first [] name i d lt here below = absurd (omega arith)
find_first (n ∷ ns) name zero d lt here below = rw here refl
find_first (n ∷ ns) name (suc i) d lt here below = rw (below 0 (omega arith)) (find_first ns name i d (omega arith) here (λ k le. below (suc k) (omega arith)))

-- a name is not another
has_one : (n : Named) (name other : List ℕ) → other ≢ name → has_name name n ≡ true → has_name other n ≡ false
has_one n name other ne has = grind (arith, bytes_eq-Decides)

-- without that image, the images of the other names stay
pub find_removed : (ns : List Named) (name other : List ℕ) (i : ℕ) (d : Named) → other ≢ name → i < length ns → has_name name (get_or ns i d) ≡ true
    → find_named (remove ns i) other ≡ find_named ns other
find_removed [] name other i d ne lt here = absurd (omega arith)
find_removed (n ∷ ns) name other zero d ne lt here = rw (has_one n name other ne here) refl
find_removed (n ∷ ns) name other (suc i) d ne lt here =
    ap (λ (o : Option State). if has_name other n then Some (state_of n.disk) else o) (find_removed ns name other i d ne (omega arith) here)

-- an image is found exactly where a place is
first_or_rest : (b : Bool) (m l : ℕ) (s : State) (o : Option State) → nat_lt m l ≡ is_some o
    → nat_lt (cond (not b) (1 + m) 0) (suc l) ≡ is_some (if b then Some s else o)
first_or_rest true m l s o e = grind (arith, nat_tests)
first_or_rest false m l s o e = grind (arith, nat_tests)

within_found : (ns : List Named) (name : List ℕ) → nat_lt (position_or_len (has_name name) ns) (length ns) ≡ is_some (find_named ns name)
within_found [] name = refl
within_found (n ∷ ns) name = first_or_rest (has_name name n) _ _ (state_of n.disk) (find_named ns name) (within_found ns name)

some_cond : (b : Bool) (m : ℕ) → is_some (cond b (Some m) None) ≡ b
some_cond true m = refl
some_cond false m = refl

pub found_placed : (ns : List Named) (name : List ℕ) → is_some (position (has_name name) ns) ≡ is_some (find_named ns name)
found_placed ns name = some_cond _ _ ∙ within_found ns name

none_some : (o : Option State) → is_some o ≡ false → o ≡ None
none_some None e = refl
none_some (Some s) e = cc

pub none_placed : (ns : List Named) (name : List ℕ) → position (has_name name) ns ≡ None → find_named ns name ≡ None
none_placed ns name e = none_some _ (sym (found_placed ns name) ∙ ap (λ (o : Option ℕ). is_some o) e)

pub find_placed : (ns : List Named) (name : List ℕ) (i : ℕ) (n : Named) → position (has_name name) ns ≡ Some i → n ≡ get_or ns i n → find_named ns name ≡ Some (state_of n.disk)
find_placed ns name i n e is =
    let at = position-Some (has_name name) ns i n e in
    find_first ns name i n at.0 at.1 at.2 ∙ ap (λ (m : Named). Some (state_of m.disk)) (sym is)

pub find_other : (ns : List Named) (name other : List ℕ) (i : ℕ) (n : Named) → position (has_name name) ns ≡ Some i → other ≢ name → find_named (remove ns i) other ≡ find_named ns other
find_other ns name other i n e ne = let at = position-Some (has_name name) ns i n e in find_removed ns name other i n ne at.0 at.1

-- the open image has another name
pub other_image : (b : Bool) (s : State) (o : Option State) → b ≡ false → is_some (if b then Some s else o) ≡ is_some o
other_image true s o e = cc
other_image false s o e = refl

-- the image that is set is found
find_set : (ns : List Named) (name : List ℕ) (i : ℕ) (d n : Named) → i < length ns → has_name name n ≡ true
    → ((k : ℕ) → k < i → has_name name (get_or ns k d) ≡ false) → find_named (slice_set ns i n) name ≡ Some (state_of n.disk)
find_set [] name i d n lt here below = absurd (omega arith)
find_set (m ∷ ns) name zero d n lt here below = rw here refl
find_set (m ∷ ns) name (suc i) d n lt here below = rw (below 0 (omega arith)) (find_set ns name i d n (omega arith) here (λ k le. below (suc k) (omega arith)))

-- the images of the other names stay
find_set_other : (ns : List Named) (name other : List ℕ) (i : ℕ) (d n : Named) → other ≢ name → has_name name (get_or ns i d) ≡ true → has_name name n ≡ true
    → find_named (slice_set ns i n) other ≡ find_named ns other
find_set_other [] name other i d n ne was here = refl
find_set_other (m ∷ ns) name other zero d n ne was here = rw (has_one m name other ne was, has_one n name other ne here) refl
find_set_other (m ∷ ns) name other (suc i) d n ne was here =
    ap (λ (o : Option State). if has_name other m then Some (state_of m.disk) else o) (find_set_other ns name other i d n ne was here)

-- the image at the place of a name
record Placed (ns : List Named) (name : List ℕ) (i : ℕ) (n : Named) : Type 0 where
  there : slice_get ns i ≡ Some n
  within : i < length ns
  here : has_name name n ≡ true
  here_too : has_name name (get_or ns i n) ≡ true
  below : (k : ℕ) → k < i → has_name name (get_or ns k n) ≡ false

placed_at : (ns : List Named) (name : List ℕ) (i : ℕ) (o : Option Named) (d : MemDisk) → slice_get ns i ≡ o → option_map (λ (n : Named). n.disk) o ≡ Some d → position (has_name name) ns ≡ Some i
    → (n : Named) × (Placed ns name i n) × (n.disk ≡ d)
placed_at ns name i None d e is at = cc
placed_at ns name i (Some n) d e is at =
    let first = position-Some (has_name name) ns i n at in
    let same : get_or ns i n ≡ n = get_or_from_slice_get ns i n n e in
    let disk : n.disk ≡ d = cc in
    (n, record { there = e; within = first.0; here = ap (has_name name) (sym same) ∙ first.1; here_too = first.1; below = first.2 }, disk)

pub found_disk : (ns : List Named) (name : List ℕ) (i : ℕ) (d : MemDisk) → option_map (λ (n : Named). n.disk) (slice_get ns i) ≡ Some d → position (has_name name) ns ≡ Some i
    → find_named ns name ≡ Some (state_of d)
found_disk ns name i d is at =
    let p = placed_at ns name i _ d refl is at in
    find_placed ns name i p.0 at (sym (get_or_from_slice_get ns i p.0 p.0 p.1.there)) ∙ ap (λ (m : MemDisk). Some (state_of m)) p.2

pub sets_other : (m : MemMedia) (name : List ℕ) (i : ℕ) (d w : MemDisk) → option_map (λ (n : Named). n.disk) (slice_get m.others.items i) ≡ Some d
    → position (has_name name) m.others.items ≡ Some i → is_name_of (option_map string_bytes m.name) name ≡ false → SetsImage m name (with_other m i w) w
sets_other m name i d w is at not_open =
    let p = placed_at m.others.items name i _ d refl is at in
    subst (λ (o : Option Named). SetsImage m name (with_named m i o w) w) (sym p.1.there) (record {
      image = rw not_open (find_set m.others.items name i p.0 (record p.0 { disk = w }) p.1.within p.1.here p.1.below);
      others = λ other ne. ap (λ (o : Option State). if is_name_of (option_map string_bytes m.name) other then Some (state_of m.disk) else o)
          (find_set_other m.others.items name other i p.0 (record p.0 { disk = w }) ne p.1.here_too p.1.here);
      current = refl;
      faults = refl;
      given = refl;
      is_open = λ e. absurd (false≢true (sym not_open ∙ e));
      not_open = λ e. refl;
      earlier = refl;
      told = refl;
    })

-- a name that is not that of the open image
pub not_current : (current : Option (List ℕ)) (name : List ℕ) → current ≢ Some name → is_name_of current name ≡ false
not_current None name ne = refl
not_current (Some other) name ne = let apart : other ≢ name = λ e. ne (ap (λ (n : List ℕ). Some n) e) in grind (arith, bytes_eq-Decides)

-- the moments of the medium, by its parts
abbrev moments_by : ℕ → Bool → MemDisk → Past
moments_by earlier is_told d = later_by earlier is_told (moments_of d)

-- where another image than the open one is set, the moments are the same
pub same_moments : (P : Past → Type 0) {old new : MemMedia} {name : List ℕ} {disk : MemDisk} → SetsImage old name new disk → is_name_of (fixed_of old).current name ≡ false
    → P (past_since old) → P (past_since new)
same_moments P {old} {new} sets ne holds =
    subst (λ (d : MemDisk). P (moments_by new.earlier new.is_told d)) (sym (sets.not_open ne))
    (subst (λ (e : ℕ). P (moments_by e new.is_told old.disk)) (sym sets.earlier) (subst (λ (b : Bool). P (moments_by old.earlier b old.disk)) (sym sets.told) holds))
