-- What is noted adds up.
use Rattle.std.proofs.Common.{◌≡◌, ◌<◌, ℕ, zero, suc, ◌+◌, List, [], ◌∷◌, ◌++◌, length, get_or, set, take, Bool, true, false, ◌≤◌, ◌==◌, refl, ap, sym, ◌∙◌, subst, arith}
use Rattle.std.specs.Prelude.{All, not, if◌then◌else◌}
use Rattle.std.specs.List.{sum_by}
use Rattle.std.proofs.lemmas.List.Sums.{sum_by-set, sum_by-cons}
use Rattle.std.proofs.lemmas.List.{take_more, append_assoc, get_or_append_left, get_or_at, length-append, map_push}
use Rattle.std.proofs.lemmas.List.Elements.{filter-append}
use Rattle.vol_numbers.specs.declared.runs.Page.{Page}
use Rattle.block_tree.specs.Tree.{Blocks, nonzero}
use Rattle.place_words.specs.Different.{times}
use Rattle.block_tree.specs.Notes.{Noted, Stand, Settles, brought, page_blocks, refs}
use Rattle.block_tree.specs.Renewal.{IsNoted}
use Rattle.block_tree.proofs.EditLaws.{cond_same, cond_other}

pub times-append : (b : ℕ) (xs ys : List ℕ) → times b (xs ++ ys) ≡ times b xs + times b ys
times-append b [] ys = omega arith
times-append b (x ∷ xs) ys = omega (arith, times-append b xs ys)

pub refs-append : (b : ℕ) (xs ys : List ℕ) → refs b (xs ++ ys) ≡ refs b xs + refs b ys
refs-append b xs ys = ap (λ (zs : List ℕ). times b zs) (filter-append _ xs ys) ∙ times-append b (nonzero xs) (nonzero ys)

-- pointer by pointer
pub refs-each : (b : ℕ) (xs : List ℕ) → refs b xs ≡ sum_by (λ t. refs b (t ∷ [])) xs
refs-each b [] = refl
refs-each b (x ∷ xs) = omega (arith, refs-each b xs, refs-append b (x ∷ []) xs, sum_by-cons (λ t. refs b (t ∷ [])) x xs)

pub refs-set : (b : ℕ) (xs : List ℕ) (k new : ℕ) → k < length xs → refs b (set xs k new) + refs b (get_or xs k 0 ∷ []) ≡ refs b xs + refs b (new ∷ [])
refs-set b xs k new lt = omega (arith, refs-each b xs, refs-each b (set xs k new), sum_by-set (λ t. refs b (t ∷ [])) xs k new 0 lt)

pub refs-one : (b x : ℕ) → refs b (x ∷ []) ≤ times b (x ∷ [])
refs-one b x = by_test (x == 0)
  where
    by_test : (t : Bool) → times b (if not t then x ∷ [] else []) ≤ times b (x ∷ [])
    by_test true = omega arith
    by_test false = omega arith

pub paged_more : (b : ℕ) (pages : List Page) (p : Page) → times b (page_blocks (pages ++ p ∷ [])) ≡ times b (page_blocks pages) + times b (p.at ∷ [])
paged_more b pages p = ap (times b) (map_push (λ (q : Page). q.at) pages p) ∙ times-append b (page_blocks pages) (p.at ∷ [])

pub settles_none : (m : Noted) (xs : List ℕ) → Settles xs xs m m
settles_none m xs = record { each = λ b. refl }

-- one after the other, in parts of the pointers that stand side by side
pub settles_beside : {xs ys zs ws : List ℕ} {m n o : Noted} → Settles xs ys m n → Settles zs ws n o → Settles (xs ++ zs) (ys ++ ws) m o
settles_beside {xs = xs} {ys = ys} {zs = zs} {ws = ws} first second = record {
  each = λ b. omega (arith, refs-append b xs zs, refs-append b ys ws, first.each b, second.each b);
}

-- what is dropped and what is added
pub settles_change : (old new : List ℕ) (m : Noted) → Settles old new m (record m { dropped = m.dropped ++ nonzero old; added = m.added ++ nonzero new })
settles_change old new m = record { each = λ b. omega (arith, times-append b m.dropped (nonzero old), times-append b m.added (nonzero new)) }

pub brought-append : (b : ℕ) (xs ys us vs : List ℕ) → length xs ≡ length ys → brought b (xs ++ us) (ys ++ vs) ≡ brought b xs ys + brought b us vs
brought-append b [] [] us vs e = omega arith
brought-append b [] (y ∷ ys) us vs e = absurd (omega (arith, e))
brought-append b (x ∷ xs) [] us vs e = absurd (omega (arith, e))
brought-append b (x ∷ xs) (y ∷ ys) us vs e = let rest = brought-append b xs ys us vs (omega (arith, e)) in omega (arith, rest)

pub noted_same : (old new : ℕ) (m : Noted) → old ≡ new → IsNoted (old ∷ []) (new ∷ []) m m
noted_same old new m same = record {
  settles = record { each = λ b. omega (arith, ap (λ (x : ℕ). times b (nonzero (x ∷ []))) same) };
  added = λ b. omega (arith, cond_same new old 0 (refs b (new ∷ [])) (sym same));
  pages = refl;
  free = refl;
}

pub noted_change : (old new : ℕ) (m : Noted) → (old ≡ new → ⊥) → IsNoted (old ∷ []) (new ∷ []) m (record m { dropped = m.dropped ++ nonzero (old ∷ []); added = m.added ++ nonzero (new ∷ []) })
noted_change old new m other = record {
  settles = settles_change (old ∷ []) (new ∷ []) m;
  added = λ b. omega (arith, times-append b m.added (nonzero (new ∷ [])), cond_other new old 0 (refs b (new ∷ [])) (λ e. other (sym e)));
  pages = refl;
  free = refl;
}

length_take_same : (xs ys : List ℕ) (i : ℕ) → i < length xs → i < length ys → length (take i xs) ≡ length (take i ys)
length_take_same xs ys zero lt lt' = refl
length_take_same [] ys (suc i) lt lt' = absurd (omega (arith, lt))
length_take_same (x ∷ xs) [] (suc i) lt lt' = absurd (omega (arith, lt'))
length_take_same (x ∷ xs) (y ∷ ys) (suc i) lt lt' = ap suc (length_take_same xs ys i (omega (arith, lt)) (omega (arith, lt')))

pub noted_more : (xs ys : List ℕ) (i : ℕ) {m n o : Noted} → i < length xs → i < length ys
    → IsNoted (take i xs) (take i ys) m n → IsNoted (get_or xs i 0 ∷ []) (get_or ys i 0 ∷ []) n o → IsNoted (take (i + 1) xs) (take (i + 1) ys) m o
noted_more xs ys i {m = m} {o = o} lt lt' first second =
    let long : length (take i xs) ≡ length (take i ys) = length_take_same xs ys i lt lt' in
    let s : Settles (take i xs ++ get_or xs i 0 ∷ []) (take i ys ++ get_or ys i 0 ∷ []) m o = settles_beside first.settles second.settles in
    let more : (b : ℕ) → times b o.added ≡ times b m.added + brought b (take i xs ++ get_or xs i 0 ∷ []) (take i ys ++ get_or ys i 0 ∷ []) =
    λ b. omega (arith, first.added b, second.added b, brought-append b (take i xs) (take i ys) (get_or xs i 0 ∷ []) (get_or ys i 0 ∷ []) long) in
    record {
      settles = rw (take_more xs i 0 lt, take_more ys i 0 lt') s;
      added = λ b. more b ∙ ap (λ (t : List ℕ × List ℕ). times b m.added + brought b t.0 t.1) (λ k. (sym (take_more xs i 0 lt) k, sym (take_more ys i 0 lt') k));
      pages = second.pages ∙ first.pages;
      free = second.free ∙ first.free;
    }

pub all_front : {X : Type 0} (P : X → Type 0) (xs ys : List X) → All P (xs ++ ys) → All P xs
all_front P xs ys all k d lt = subst P (get_or_append_left xs ys d k lt) (all k d (omega (arith, length-append xs ys)))

pub all_last : {X : Type 0} (P : X → Type 0) (xs : List X) (y : X) → All P (xs ++ y ∷ []) → P y
all_last P xs y all = subst P (get_or_at xs y [] y (length xs) refl) (all (length xs) y (omega (arith, length-append xs (y ∷ []))))

abbrev StandsIn : Blocks → Page → Type 0
StandsIn read p = read p.at ≡ p.block.bytes

pub stand_front : (pages : List Page) (p : Page) (read : Blocks) → Stand (pages ++ p ∷ []) read → Stand pages read
stand_front pages p read stand = record { each = all_front (StandsIn read) pages (p ∷ []) stand.each }

pub stand_last : (pages : List Page) (p : Page) (read : Blocks) → Stand (pages ++ p ∷ []) read → read p.at ≡ p.block.bytes
stand_last pages p read stand = all_last (StandsIn read) pages p stand.each

-- the block of a page more is the next free one
pub takes_one : (pages : List Page) (p : Page) (free left : List ℕ) → free ≡ p.at ∷ left → page_blocks (pages ++ p ∷ []) ++ left ≡ page_blocks pages ++ free
takes_one pages p free left e =
    ap (λ (xs : List ℕ). xs ++ left) (map_push (λ (q : Page). q.at) pages p)
    ∙ (append_assoc (page_blocks pages) (p.at ∷ []) left ∙ ap (λ (xs : List ℕ). page_blocks pages ++ xs) (sym e))
