-- The text of a reply tells the reply, whatever follows.
use Rattle.std.proofs.Common.{◌≡◌, ◌≢◌, ◌∙◌, ◌+◌, ◌-◌, ◌*◌, ◌++◌, ℕ, List, [], ◌∷◌, length, get_or, refl, sym, ap, arith, append_assoc}
use Rattle.std.specs.Prelude.{decimal, codes, ◌==◌, if◌then◌else◌}
use Rattle.std.specs.List.{flat_map}
use Rattle.tree_model.specs.declared.refusal.Refusal.{Refusal}
use Rattle.tree_model.specs.declared.refusal.Refusal.TheVariants.{BadCommand, BadName, NotFound, NotADirectory, IsADirectory, Exists, RootFixed, Inside, NotEmpty, TooBig, NoNumbers, NoSpace, DeviceFault, Damaged, OutOfMemory}
use Rattle.tree_model.specs.declared.reply.Kind.{Kind}
use Rattle.tree_model.specs.declared.reply.Entry.{Entry}
use Rattle.tree_model.specs.declared.reply.Piece.{Piece}
use Rattle.tree_model.specs.declared.reply.Piece.TheVariants.{Placed, Dirty}
use Rattle.tree_model.specs.declared.reply.Reply.{Reply}
use Rattle.tree_model.specs.declared.reply.Reply.TheVariants.{Done, Data, Entries, Stat, Layout, Space, Refused}
use Rattle.tree_model.specs.Refusal.{number_of}
use Rattle.reply_text.specs.Replies.{kind_text, entry_text, piece_text, refusal_text, reply_text}
use Rattle.reply_text.specs.Telling.{IsEntry, IsPiece, IsRefusal, IsReply}
use Rattle.reply_text.proofs.TellLemmas.{number_tells, two_tell, same_bytes, same_items, entry_tells, kinds_tell}

-- ---- refusals

-- the number in the text of a refusal
abbrev number_at : List ℕ → ℕ
number_at text = if get_or text 9 0 == 32 then get_or text 8 0 - 48 else 10 * (get_or text 8 0 - 48) + (get_or text 9 0 - 48)

number_told : (r : Refusal) (x : List ℕ) → number_at (refusal_text r ++ x) ≡ number_of r
number_told BadCommand x = refl
number_told BadName x = refl
number_told NotFound x = refl
number_told NotADirectory x = refl
number_told IsADirectory x = refl
number_told Exists x = refl
number_told RootFixed x = refl
number_told Inside x = refl
number_told NotEmpty x = refl
number_told TooBig x = refl
number_told NoNumbers x = refl
number_told (NoSpace free need) x = refl
number_told DeviceFault x = refl
number_told (Damaged free) x = refl
number_told OutOfMemory x = refl

pub refusal_first : (r : Refusal) (x : List ℕ) → get_or (refusal_text r ++ x) 0 0 ≡ 114
refusal_first BadCommand x = refl
refusal_first BadName x = refl
refusal_first NotFound x = refl
refusal_first NotADirectory x = refl
refusal_first IsADirectory x = refl
refusal_first Exists x = refl
refusal_first RootFixed x = refl
refusal_first Inside x = refl
refusal_first NotEmpty x = refl
refusal_first TooBig x = refl
refusal_first NoNumbers x = refl
refusal_first (NoSpace free need) x = refl
refusal_first DeviceFault x = refl
refusal_first (Damaged free) x = refl
refusal_first OutOfMemory x = refl

-- the refusal of a number that says nothing more
abbrev plain_at : ℕ → Refusal
plain_at n = if n == 1 then BadCommand else if n == 2 then BadName else if n == 3 then NotFound else if n == 4 then NotADirectory else if n == 5 then IsADirectory else if n == 6 then Exists else if n == 7 then RootFixed else if n == 8 then Inside else if n == 9 then NotEmpty else if n == 10 then TooBig else if n == 11 then NoNumbers else if n == 13 then DeviceFault else OutOfMemory

plain_same : (s : Refusal) (k : ℕ) → k ≢ 12 → k ≢ 14 → number_of s ≡ k → s ≡ plain_at k
plain_same BadCommand k not_12 not_14 e = ap plain_at e
plain_same BadName k not_12 not_14 e = ap plain_at e
plain_same NotFound k not_12 not_14 e = ap plain_at e
plain_same NotADirectory k not_12 not_14 e = ap plain_at e
plain_same IsADirectory k not_12 not_14 e = ap plain_at e
plain_same Exists k not_12 not_14 e = ap plain_at e
plain_same RootFixed k not_12 not_14 e = ap plain_at e
plain_same Inside k not_12 not_14 e = ap plain_at e
plain_same NotEmpty k not_12 not_14 e = ap plain_at e
plain_same TooBig k not_12 not_14 e = ap plain_at e
plain_same NoNumbers k not_12 not_14 e = ap plain_at e
plain_same (NoSpace free need) k not_12 not_14 e = absurd (not_12 (sym e))
plain_same DeviceFault k not_12 not_14 e = ap plain_at e
plain_same (Damaged free) k not_12 not_14 e = absurd (not_14 (sym e))
plain_same OutOfMemory k not_12 not_14 e = ap plain_at e

no_space_right : (m n : ℕ) (x : List ℕ) → refusal_text (NoSpace m n) ++ x ≡ codes "refused 12 NoSpace " ++ (decimal m ++ 32 ∷ (decimal n ++ 10 ∷ x))
no_space_right m n x = simp append_assoc

damaged_right : (m : ℕ) (x : List ℕ) → refusal_text (Damaged m) ++ x ≡ codes "refused 14 Damaged " ++ (decimal m ++ 10 ∷ x)
damaged_right m x = simp append_assoc

pub refusal_tells : (r s : Refusal) (x y : List ℕ) → IsRefusal r → IsRefusal s → refusal_text r ++ x ≡ refusal_text s ++ y → r ≡ s
refusal_tells BadCommand s x y one two same = let e : number_of s ≡ 1 = sym (number_told s y) ∙ sym (ap number_at same) in sym (plain_same s 1 (λ h. omega (arith, h)) (λ h. omega (arith, h)) e)
refusal_tells BadName s x y one two same = let e : number_of s ≡ 2 = sym (number_told s y) ∙ sym (ap number_at same) in sym (plain_same s 2 (λ h. omega (arith, h)) (λ h. omega (arith, h)) e)
refusal_tells NotFound s x y one two same = let e : number_of s ≡ 3 = sym (number_told s y) ∙ sym (ap number_at same) in sym (plain_same s 3 (λ h. omega (arith, h)) (λ h. omega (arith, h)) e)
refusal_tells NotADirectory s x y one two same = let e : number_of s ≡ 4 = sym (number_told s y) ∙ sym (ap number_at same) in sym (plain_same s 4 (λ h. omega (arith, h)) (λ h. omega (arith, h)) e)
refusal_tells IsADirectory s x y one two same = let e : number_of s ≡ 5 = sym (number_told s y) ∙ sym (ap number_at same) in sym (plain_same s 5 (λ h. omega (arith, h)) (λ h. omega (arith, h)) e)
refusal_tells Exists s x y one two same = let e : number_of s ≡ 6 = sym (number_told s y) ∙ sym (ap number_at same) in sym (plain_same s 6 (λ h. omega (arith, h)) (λ h. omega (arith, h)) e)
refusal_tells RootFixed s x y one two same = let e : number_of s ≡ 7 = sym (number_told s y) ∙ sym (ap number_at same) in sym (plain_same s 7 (λ h. omega (arith, h)) (λ h. omega (arith, h)) e)
refusal_tells Inside s x y one two same = let e : number_of s ≡ 8 = sym (number_told s y) ∙ sym (ap number_at same) in sym (plain_same s 8 (λ h. omega (arith, h)) (λ h. omega (arith, h)) e)
refusal_tells NotEmpty s x y one two same = let e : number_of s ≡ 9 = sym (number_told s y) ∙ sym (ap number_at same) in sym (plain_same s 9 (λ h. omega (arith, h)) (λ h. omega (arith, h)) e)
refusal_tells TooBig s x y one two same = let e : number_of s ≡ 10 = sym (number_told s y) ∙ sym (ap number_at same) in sym (plain_same s 10 (λ h. omega (arith, h)) (λ h. omega (arith, h)) e)
refusal_tells NoNumbers s x y one two same = let e : number_of s ≡ 11 = sym (number_told s y) ∙ sym (ap number_at same) in sym (plain_same s 11 (λ h. omega (arith, h)) (λ h. omega (arith, h)) e)
refusal_tells DeviceFault s x y one two same = let e : number_of s ≡ 13 = sym (number_told s y) ∙ sym (ap number_at same) in sym (plain_same s 13 (λ h. omega (arith, h)) (λ h. omega (arith, h)) e)
refusal_tells OutOfMemory s x y one two same = let e : number_of s ≡ 15 = sym (number_told s y) ∙ sym (ap number_at same) in sym (plain_same s 15 (λ h. omega (arith, h)) (λ h. omega (arith, h)) e)
refusal_tells (NoSpace free need) BadCommand x y one two same = let e : ◌≡◌ {A = ℕ} 12 1 = sym (number_told (NoSpace free need) x) ∙ ap number_at same ∙ number_told BadCommand y in absurd (omega arith)
refusal_tells (NoSpace free need) BadName x y one two same = let e : ◌≡◌ {A = ℕ} 12 2 = sym (number_told (NoSpace free need) x) ∙ ap number_at same ∙ number_told BadName y in absurd (omega arith)
refusal_tells (NoSpace free need) NotFound x y one two same = let e : ◌≡◌ {A = ℕ} 12 3 = sym (number_told (NoSpace free need) x) ∙ ap number_at same ∙ number_told NotFound y in absurd (omega arith)
refusal_tells (NoSpace free need) NotADirectory x y one two same = let e : ◌≡◌ {A = ℕ} 12 4 = sym (number_told (NoSpace free need) x) ∙ ap number_at same ∙ number_told NotADirectory y in absurd (omega arith)
refusal_tells (NoSpace free need) IsADirectory x y one two same = let e : ◌≡◌ {A = ℕ} 12 5 = sym (number_told (NoSpace free need) x) ∙ ap number_at same ∙ number_told IsADirectory y in absurd (omega arith)
refusal_tells (NoSpace free need) Exists x y one two same = let e : ◌≡◌ {A = ℕ} 12 6 = sym (number_told (NoSpace free need) x) ∙ ap number_at same ∙ number_told Exists y in absurd (omega arith)
refusal_tells (NoSpace free need) RootFixed x y one two same = let e : ◌≡◌ {A = ℕ} 12 7 = sym (number_told (NoSpace free need) x) ∙ ap number_at same ∙ number_told RootFixed y in absurd (omega arith)
refusal_tells (NoSpace free need) Inside x y one two same = let e : ◌≡◌ {A = ℕ} 12 8 = sym (number_told (NoSpace free need) x) ∙ ap number_at same ∙ number_told Inside y in absurd (omega arith)
refusal_tells (NoSpace free need) NotEmpty x y one two same = let e : ◌≡◌ {A = ℕ} 12 9 = sym (number_told (NoSpace free need) x) ∙ ap number_at same ∙ number_told NotEmpty y in absurd (omega arith)
refusal_tells (NoSpace free need) TooBig x y one two same = let e : ◌≡◌ {A = ℕ} 12 10 = sym (number_told (NoSpace free need) x) ∙ ap number_at same ∙ number_told TooBig y in absurd (omega arith)
refusal_tells (NoSpace free need) NoNumbers x y one two same = let e : ◌≡◌ {A = ℕ} 12 11 = sym (number_told (NoSpace free need) x) ∙ ap number_at same ∙ number_told NoNumbers y in absurd (omega arith)
refusal_tells (NoSpace free need) (NoSpace space want) x y one two same =
    let right = sym (no_space_right free need x) ∙ same ∙ no_space_right space want y in
    let fields : decimal free ++ 32 ∷ (decimal need ++ 10 ∷ x) ≡ decimal space ++ 32 ∷ (decimal want ++ 10 ∷ y) = cc in
    let first = number_tells free space 32 32 _ _ one.0 two.0 refl refl fields in
    let behind : decimal need ++ 10 ∷ x ≡ decimal want ++ 10 ∷ y = let e = first.1 in cc in
    let second = number_tells need want 10 10 x y one.1 two.1 refl refl behind in
    ap (λ (n : ℕ). NoSpace n need) first.0 ∙ ap (λ (n : ℕ). NoSpace space n) second.0
refusal_tells (NoSpace free need) DeviceFault x y one two same = let e : ◌≡◌ {A = ℕ} 12 13 = sym (number_told (NoSpace free need) x) ∙ ap number_at same ∙ number_told DeviceFault y in absurd (omega arith)
refusal_tells (NoSpace free need) (Damaged space) x y one two same = let e : ◌≡◌ {A = ℕ} 12 14 = sym (number_told (NoSpace free need) x) ∙ ap number_at same ∙ number_told (Damaged space) y in absurd (omega arith)
refusal_tells (NoSpace free need) OutOfMemory x y one two same = let e : ◌≡◌ {A = ℕ} 12 15 = sym (number_told (NoSpace free need) x) ∙ ap number_at same ∙ number_told OutOfMemory y in absurd (omega arith)
refusal_tells (Damaged free) BadCommand x y one two same = let e : ◌≡◌ {A = ℕ} 14 1 = sym (number_told (Damaged free) x) ∙ ap number_at same ∙ number_told BadCommand y in absurd (omega arith)
refusal_tells (Damaged free) BadName x y one two same = let e : ◌≡◌ {A = ℕ} 14 2 = sym (number_told (Damaged free) x) ∙ ap number_at same ∙ number_told BadName y in absurd (omega arith)
refusal_tells (Damaged free) NotFound x y one two same = let e : ◌≡◌ {A = ℕ} 14 3 = sym (number_told (Damaged free) x) ∙ ap number_at same ∙ number_told NotFound y in absurd (omega arith)
refusal_tells (Damaged free) NotADirectory x y one two same = let e : ◌≡◌ {A = ℕ} 14 4 = sym (number_told (Damaged free) x) ∙ ap number_at same ∙ number_told NotADirectory y in absurd (omega arith)
refusal_tells (Damaged free) IsADirectory x y one two same = let e : ◌≡◌ {A = ℕ} 14 5 = sym (number_told (Damaged free) x) ∙ ap number_at same ∙ number_told IsADirectory y in absurd (omega arith)
refusal_tells (Damaged free) Exists x y one two same = let e : ◌≡◌ {A = ℕ} 14 6 = sym (number_told (Damaged free) x) ∙ ap number_at same ∙ number_told Exists y in absurd (omega arith)
refusal_tells (Damaged free) RootFixed x y one two same = let e : ◌≡◌ {A = ℕ} 14 7 = sym (number_told (Damaged free) x) ∙ ap number_at same ∙ number_told RootFixed y in absurd (omega arith)
refusal_tells (Damaged free) Inside x y one two same = let e : ◌≡◌ {A = ℕ} 14 8 = sym (number_told (Damaged free) x) ∙ ap number_at same ∙ number_told Inside y in absurd (omega arith)
refusal_tells (Damaged free) NotEmpty x y one two same = let e : ◌≡◌ {A = ℕ} 14 9 = sym (number_told (Damaged free) x) ∙ ap number_at same ∙ number_told NotEmpty y in absurd (omega arith)
refusal_tells (Damaged free) TooBig x y one two same = let e : ◌≡◌ {A = ℕ} 14 10 = sym (number_told (Damaged free) x) ∙ ap number_at same ∙ number_told TooBig y in absurd (omega arith)
refusal_tells (Damaged free) NoNumbers x y one two same = let e : ◌≡◌ {A = ℕ} 14 11 = sym (number_told (Damaged free) x) ∙ ap number_at same ∙ number_told NoNumbers y in absurd (omega arith)
refusal_tells (Damaged free) (NoSpace space want) x y one two same = let e : ◌≡◌ {A = ℕ} 14 12 = sym (number_told (Damaged free) x) ∙ ap number_at same ∙ number_told (NoSpace space want) y in absurd (omega arith)
refusal_tells (Damaged free) DeviceFault x y one two same = let e : ◌≡◌ {A = ℕ} 14 13 = sym (number_told (Damaged free) x) ∙ ap number_at same ∙ number_told DeviceFault y in absurd (omega arith)
refusal_tells (Damaged block) (Damaged other) x y one two same =
    let right = sym (damaged_right block x) ∙ same ∙ damaged_right other y in
    let fields : decimal block ++ 10 ∷ x ≡ decimal other ++ 10 ∷ y = cc in
    ap (λ (n : ℕ). Damaged n) (number_tells block other 10 10 x y one two refl refl fields).0
refusal_tells (Damaged free) OutOfMemory x y one two same = let e : ◌≡◌ {A = ℕ} 14 15 = sym (number_told (Damaged free) x) ∙ ap number_at same ∙ number_told OutOfMemory y in absurd (omega arith)

-- ---- pieces

placed_right : (k m n : ℕ) (x : List ℕ) → piece_text (Placed k m n) ++ x ≡ codes "run " ++ (decimal k ++ 32 ∷ (decimal m ++ 32 ∷ (decimal n ++ 10 ∷ x)))
placed_right k m n x = simp append_assoc

dirty_right : (m n : ℕ) (x : List ℕ) → piece_text (Dirty m n) ++ x ≡ codes "dirty " ++ (decimal m ++ 32 ∷ (decimal n ++ 10 ∷ x))
dirty_right m n x = simp append_assoc

piece_tells : (a b : Piece) (x y : List ℕ) → IsPiece a → IsPiece b → piece_text a ++ x ≡ piece_text b ++ y → a ≡ b
piece_tells (Placed k m n) (Placed o p q) x y one two same =
    let right = sym (placed_right k m n x) ∙ same ∙ placed_right o p q y in
    let fields : decimal k ++ 32 ∷ (decimal m ++ 32 ∷ (decimal n ++ 10 ∷ x)) ≡ decimal o ++ 32 ∷ (decimal p ++ 32 ∷ (decimal q ++ 10 ∷ y)) = cc in
    let first = number_tells k o 32 32 _ _ one.0 two.0 refl refl fields in
    let behind : decimal m ++ 32 ∷ (decimal n ++ 10 ∷ x) ≡ decimal p ++ 32 ∷ (decimal q ++ 10 ∷ y) = let e = first.1 in cc in
    let rest = two_tell m n p q 32 x y one.1 one.2 two.1 two.2 refl behind in
    ap (λ (a : ℕ). Placed a m n) first.0 ∙ ap (λ (a : ℕ). Placed o a n) rest.0 ∙ ap (λ (a : ℕ). Placed o p a) rest.1
piece_tells (Dirty m n) (Dirty p q) x y one two same =
    let right = sym (dirty_right m n x) ∙ same ∙ dirty_right p q y in
    let fields : decimal m ++ 32 ∷ (decimal n ++ 10 ∷ x) ≡ decimal p ++ 32 ∷ (decimal q ++ 10 ∷ y) = cc in
    let rest = two_tell m n p q 32 x y one.0 one.1 two.0 two.1 refl fields in
    ap (λ (a : ℕ). Dirty a n) rest.0 ∙ ap (λ (a : ℕ). Dirty p a) rest.1
piece_tells (Placed k m n) (Dirty p q) x y one two same = let e : ◌≡◌ {A = ℕ} 114 100 = ap (λ (l : List ℕ). get_or l 0 0) same in absurd (omega arith)
piece_tells (Dirty m n) (Placed o p q) x y one two same = let e : ◌≡◌ {A = ℕ} 100 114 = ap (λ (l : List ℕ). get_or l 0 0) same in absurd (omega arith)

-- ---- replies

data_right : (bytes x : List ℕ) → reply_text (Data bytes) ++ x ≡ codes "data " ++ (decimal (length bytes) ++ 10 ∷ (bytes ++ 10 ∷ x))
data_right bytes x = simp append_assoc (ap (λ (l : List ℕ). codes "data " ++ l) (append_assoc (decimal (length bytes)) (10 ∷ []) (bytes ++ 10 ∷ x)))

entries_right : (n : ℕ) (lines x : List ℕ) → (codes "list " ++ decimal n ++ codes "\n" ++ lines) ++ x ≡ codes "list " ++ (decimal n ++ 10 ∷ (lines ++ x))
entries_right n lines x = simp append_assoc

layout_right : (n : ℕ) (lines x : List ℕ) → (codes "layout " ++ decimal n ++ codes "\n" ++ lines) ++ x ≡ codes "layout " ++ (decimal n ++ 10 ∷ (lines ++ x))
layout_right n lines x = simp append_assoc

stat_right : (k : Kind) (m n : ℕ) (x : List ℕ) → reply_text (Stat k m n) ++ x ≡ codes "stat " ++ (kind_text k ++ (32 ∷ (decimal m ++ 32 ∷ (decimal n ++ 10 ∷ x))))
stat_right k m n x = simp append_assoc

space_right : (k m n : ℕ) (x : List ℕ) → reply_text (Space k m n) ++ x ≡ codes "space free=" ++ (decimal k ++ 32 ∷ (codes "pending=" ++ (decimal m ++ 32 ∷ (codes "log=" ++ (decimal n ++ 10 ∷ x)))))
space_right k m n x = simp append_assoc

pub reply_tells : (a b : Reply) (x y : List ℕ) → IsReply a → IsReply b → reply_text a ++ x ≡ reply_text b ++ y → a ≡ b
reply_tells Done Done x y one two same = refl
reply_tells (Data a) (Data b) x y one two same =
    let right = sym (data_right a x) ∙ same ∙ data_right b y in
    let fields : decimal (length a) ++ 10 ∷ (a ++ 10 ∷ x) ≡ decimal (length b) ++ 10 ∷ (b ++ 10 ∷ y) = cc in
    let counts = number_tells (length a) (length b) 10 10 _ _ one two refl refl fields in
    let behind : a ++ 10 ∷ x ≡ b ++ 10 ∷ y = let e = counts.1 in cc in
    ap (λ (l : List ℕ). Data l) (same_bytes a b (10 ∷ x) (10 ∷ y) counts.0 behind)
reply_tells (Entries a) (Entries b) x y one two same =
    let right = sym (entries_right (length a) (flat_map entry_text a) x) ∙ same ∙ entries_right (length b) (flat_map entry_text b) y in
    let fields : decimal (length a) ++ 10 ∷ (flat_map entry_text a ++ x) ≡ decimal (length b) ++ 10 ∷ (flat_map entry_text b ++ y) = cc in
    let counts = number_tells (length a) (length b) 10 10 _ _ one.0 two.0 refl refl fields in
    let behind : flat_map entry_text a ++ x ≡ flat_map entry_text b ++ y = let e = counts.1 in cc in
    ap (λ (l : List Entry). Entries l) (same_items entry_text IsEntry entry_tells a b x y counts.0 one.1 two.1 behind)
reply_tells (Stat k m n) (Stat l p q) x y one two same =
    let right = sym (stat_right k m n x) ∙ same ∙ stat_right l p q y in
    let fields : kind_text k ++ (32 ∷ (decimal m ++ 32 ∷ (decimal n ++ 10 ∷ x))) ≡ kind_text l ++ (32 ∷ (decimal p ++ 32 ∷ (decimal q ++ 10 ∷ y))) = cc in
    let kinds = kinds_tell k l _ _ fields in
    let behind : decimal m ++ 32 ∷ (decimal n ++ 10 ∷ x) ≡ decimal p ++ 32 ∷ (decimal q ++ 10 ∷ y) = let e = kinds.1 in cc in
    let rest = two_tell m n p q 32 x y one.0 one.1 two.0 two.1 refl behind in
    ap (λ (a : Kind). Stat a m n) kinds.0 ∙ ap (λ (a : ℕ). Stat l a n) rest.0 ∙ ap (λ (a : ℕ). Stat l p a) rest.1
reply_tells (Layout a) (Layout b) x y one two same =
    let right = sym (layout_right (length a) (flat_map piece_text a) x) ∙ same ∙ layout_right (length b) (flat_map piece_text b) y in
    let fields : decimal (length a) ++ 10 ∷ (flat_map piece_text a ++ x) ≡ decimal (length b) ++ 10 ∷ (flat_map piece_text b ++ y) = cc in
    let counts = number_tells (length a) (length b) 10 10 _ _ one.0 two.0 refl refl fields in
    let behind : flat_map piece_text a ++ x ≡ flat_map piece_text b ++ y = let e = counts.1 in cc in
    ap (λ (l : List Piece). Layout l) (same_items piece_text IsPiece piece_tells a b x y counts.0 one.1 two.1 behind)
reply_tells (Space k m n) (Space o p q) x y one two same =
    let right = sym (space_right k m n x) ∙ same ∙ space_right o p q y in
    let fields : decimal k ++ 32 ∷ (codes "pending=" ++ (decimal m ++ 32 ∷ (codes "log=" ++ (decimal n ++ 10 ∷ x)))) ≡ decimal o ++ 32 ∷ (codes "pending=" ++ (decimal p ++ 32 ∷ (codes "log=" ++ (decimal q ++ 10 ∷ y)))) = cc in
    let first = number_tells k o 32 32 _ _ one.0 two.0 refl refl fields in
    let behind : decimal m ++ 32 ∷ (codes "log=" ++ (decimal n ++ 10 ∷ x)) ≡ decimal p ++ 32 ∷ (codes "log=" ++ (decimal q ++ 10 ∷ y)) = let e = first.1 in cc in
    let second = number_tells m p 32 32 _ _ one.1 two.1 refl refl behind in
    let last : decimal n ++ 10 ∷ x ≡ decimal q ++ 10 ∷ y = let e = second.1 in cc in
    let third = number_tells n q 10 10 x y one.2 two.2 refl refl last in
    ap (λ (a : ℕ). Space a m n) first.0 ∙ ap (λ (a : ℕ). Space o a n) second.0 ∙ ap (λ (a : ℕ). Space o p a) third.0
reply_tells (Refused r) (Refused s) x y one two same = ap (λ (a : Refusal). Refused a) (refusal_tells r s x y one two same)
reply_tells Done (Data b) x y one two same = let e : ◌≡◌ {A = ℕ} 111 100 = ap (λ (t : List ℕ). get_or t 0 0) same in absurd (omega arith)
reply_tells Done (Entries b) x y one two same = let e : ◌≡◌ {A = ℕ} 111 108 = ap (λ (t : List ℕ). get_or t 0 0) same in absurd (omega arith)
reply_tells Done (Stat l p q) x y one two same = let e : ◌≡◌ {A = ℕ} 111 115 = ap (λ (t : List ℕ). get_or t 0 0) same in absurd (omega arith)
reply_tells Done (Layout b) x y one two same = let e : ◌≡◌ {A = ℕ} 111 108 = ap (λ (t : List ℕ). get_or t 0 0) same in absurd (omega arith)
reply_tells Done (Space o p q) x y one two same = let e : ◌≡◌ {A = ℕ} 111 115 = ap (λ (t : List ℕ). get_or t 0 0) same in absurd (omega arith)
reply_tells Done (Refused s) x y one two same = let e : ◌≡◌ {A = ℕ} 111 114 = ap (λ (t : List ℕ). get_or t 0 0) same ∙ refusal_first s y in absurd (omega arith)
reply_tells (Data a) Done x y one two same = let e : ◌≡◌ {A = ℕ} 100 111 = ap (λ (t : List ℕ). get_or t 0 0) same in absurd (omega arith)
reply_tells (Data a) (Entries b) x y one two same = let e : ◌≡◌ {A = ℕ} 100 108 = ap (λ (t : List ℕ). get_or t 0 0) same in absurd (omega arith)
reply_tells (Data a) (Stat l p q) x y one two same = let e : ◌≡◌ {A = ℕ} 100 115 = ap (λ (t : List ℕ). get_or t 0 0) same in absurd (omega arith)
reply_tells (Data a) (Layout b) x y one two same = let e : ◌≡◌ {A = ℕ} 100 108 = ap (λ (t : List ℕ). get_or t 0 0) same in absurd (omega arith)
reply_tells (Data a) (Space o p q) x y one two same = let e : ◌≡◌ {A = ℕ} 100 115 = ap (λ (t : List ℕ). get_or t 0 0) same in absurd (omega arith)
reply_tells (Data a) (Refused s) x y one two same = let e : ◌≡◌ {A = ℕ} 100 114 = ap (λ (t : List ℕ). get_or t 0 0) same ∙ refusal_first s y in absurd (omega arith)
reply_tells (Entries a) Done x y one two same = let e : ◌≡◌ {A = ℕ} 108 111 = ap (λ (t : List ℕ). get_or t 0 0) same in absurd (omega arith)
reply_tells (Entries a) (Data b) x y one two same = let e : ◌≡◌ {A = ℕ} 108 100 = ap (λ (t : List ℕ). get_or t 0 0) same in absurd (omega arith)
reply_tells (Entries a) (Stat l p q) x y one two same = let e : ◌≡◌ {A = ℕ} 108 115 = ap (λ (t : List ℕ). get_or t 0 0) same in absurd (omega arith)
reply_tells (Entries a) (Layout b) x y one two same = let e : ◌≡◌ {A = ℕ} 105 97 = ap (λ (t : List ℕ). get_or t 1 0) same in absurd (omega arith)
reply_tells (Entries a) (Space o p q) x y one two same = let e : ◌≡◌ {A = ℕ} 108 115 = ap (λ (t : List ℕ). get_or t 0 0) same in absurd (omega arith)
reply_tells (Entries a) (Refused s) x y one two same = let e : ◌≡◌ {A = ℕ} 108 114 = ap (λ (t : List ℕ). get_or t 0 0) same ∙ refusal_first s y in absurd (omega arith)
reply_tells (Stat k m n) Done x y one two same = let e : ◌≡◌ {A = ℕ} 115 111 = ap (λ (t : List ℕ). get_or t 0 0) same in absurd (omega arith)
reply_tells (Stat k m n) (Data b) x y one two same = let e : ◌≡◌ {A = ℕ} 115 100 = ap (λ (t : List ℕ). get_or t 0 0) same in absurd (omega arith)
reply_tells (Stat k m n) (Entries b) x y one two same = let e : ◌≡◌ {A = ℕ} 115 108 = ap (λ (t : List ℕ). get_or t 0 0) same in absurd (omega arith)
reply_tells (Stat k m n) (Layout b) x y one two same = let e : ◌≡◌ {A = ℕ} 115 108 = ap (λ (t : List ℕ). get_or t 0 0) same in absurd (omega arith)
reply_tells (Stat k m n) (Space o p q) x y one two same = let e : ◌≡◌ {A = ℕ} 116 112 = ap (λ (t : List ℕ). get_or t 1 0) same in absurd (omega arith)
reply_tells (Stat k m n) (Refused s) x y one two same = let e : ◌≡◌ {A = ℕ} 115 114 = ap (λ (t : List ℕ). get_or t 0 0) same ∙ refusal_first s y in absurd (omega arith)
reply_tells (Layout a) Done x y one two same = let e : ◌≡◌ {A = ℕ} 108 111 = ap (λ (t : List ℕ). get_or t 0 0) same in absurd (omega arith)
reply_tells (Layout a) (Data b) x y one two same = let e : ◌≡◌ {A = ℕ} 108 100 = ap (λ (t : List ℕ). get_or t 0 0) same in absurd (omega arith)
reply_tells (Layout a) (Entries b) x y one two same = let e : ◌≡◌ {A = ℕ} 97 105 = ap (λ (t : List ℕ). get_or t 1 0) same in absurd (omega arith)
reply_tells (Layout a) (Stat l p q) x y one two same = let e : ◌≡◌ {A = ℕ} 108 115 = ap (λ (t : List ℕ). get_or t 0 0) same in absurd (omega arith)
reply_tells (Layout a) (Space o p q) x y one two same = let e : ◌≡◌ {A = ℕ} 108 115 = ap (λ (t : List ℕ). get_or t 0 0) same in absurd (omega arith)
reply_tells (Layout a) (Refused s) x y one two same = let e : ◌≡◌ {A = ℕ} 108 114 = ap (λ (t : List ℕ). get_or t 0 0) same ∙ refusal_first s y in absurd (omega arith)
reply_tells (Space k m n) Done x y one two same = let e : ◌≡◌ {A = ℕ} 115 111 = ap (λ (t : List ℕ). get_or t 0 0) same in absurd (omega arith)
reply_tells (Space k m n) (Data b) x y one two same = let e : ◌≡◌ {A = ℕ} 115 100 = ap (λ (t : List ℕ). get_or t 0 0) same in absurd (omega arith)
reply_tells (Space k m n) (Entries b) x y one two same = let e : ◌≡◌ {A = ℕ} 115 108 = ap (λ (t : List ℕ). get_or t 0 0) same in absurd (omega arith)
reply_tells (Space k m n) (Stat l p q) x y one two same = let e : ◌≡◌ {A = ℕ} 112 116 = ap (λ (t : List ℕ). get_or t 1 0) same in absurd (omega arith)
reply_tells (Space k m n) (Layout b) x y one two same = let e : ◌≡◌ {A = ℕ} 115 108 = ap (λ (t : List ℕ). get_or t 0 0) same in absurd (omega arith)
reply_tells (Space k m n) (Refused s) x y one two same = let e : ◌≡◌ {A = ℕ} 115 114 = ap (λ (t : List ℕ). get_or t 0 0) same ∙ refusal_first s y in absurd (omega arith)
reply_tells (Refused r) Done x y one two same = let e : ◌≡◌ {A = ℕ} 114 111 = sym (refusal_first r x) ∙ ap (λ (t : List ℕ). get_or t 0 0) same in absurd (omega arith)
reply_tells (Refused r) (Data b) x y one two same = let e : ◌≡◌ {A = ℕ} 114 100 = sym (refusal_first r x) ∙ ap (λ (t : List ℕ). get_or t 0 0) same in absurd (omega arith)
reply_tells (Refused r) (Entries b) x y one two same = let e : ◌≡◌ {A = ℕ} 114 108 = sym (refusal_first r x) ∙ ap (λ (t : List ℕ). get_or t 0 0) same in absurd (omega arith)
reply_tells (Refused r) (Stat l p q) x y one two same = let e : ◌≡◌ {A = ℕ} 114 115 = sym (refusal_first r x) ∙ ap (λ (t : List ℕ). get_or t 0 0) same in absurd (omega arith)
reply_tells (Refused r) (Layout b) x y one two same = let e : ◌≡◌ {A = ℕ} 114 108 = sym (refusal_first r x) ∙ ap (λ (t : List ℕ). get_or t 0 0) same in absurd (omega arith)
reply_tells (Refused r) (Space o p q) x y one two same = let e : ◌≡◌ {A = ℕ} 114 115 = sym (refusal_first r x) ∙ ap (λ (t : List ℕ). get_or t 0 0) same in absurd (omega arith)
