-- The order in which index blocks are written.
use Rattle.std.proofs.Common.{◌≡◌, ◌<◌, ◌≤◌, ℕ, zero, suc, ◌+◌, ◌==◌, List, [], ◌∷◌, ◌++◌, inl, inr, length, take, drop, set, refl, ap, sym, ◌∙◌, subst, arith}
use Rattle.std.specs.Prelude.{slice_index, not}
use Rattle.std.proofs.lemmas.List.{append-nil, append_assoc, take-append-drop, map_push}
use Rattle.std.proofs.lemmas.List.Elements.{filter-append}
use Rattle.vol_numbers.specs.declared.runs.Page.{Page}
use Rattle.place_words.specs.Different.{times}
use Rattle.block_tree.specs.Tree.{Blocks, index_at, nonzero, indexes_below}
use Rattle.block_tree.specs.Notes.{Noted, page_blocks, paged}
use Rattle.block_tree.specs.Order.{IsSublist, InTurn, leaves_then_top_below}
use Rattle.block_tree.proofs.NoteLaws.{times-append, refs-append}

-- ---- some members of a list, in its order

pub sublist_same : (xs : List ℕ) → IsSublist xs xs
sublist_same [] = tt
sublist_same (x ∷ xs) = inl (refl, sublist_same xs)

sublist_behind : (xs ys : List ℕ) (zs : List ℕ) → IsSublist xs zs → IsSublist xs (ys ++ zs)
sublist_behind [] ys zs is = tt
sublist_behind (x ∷ xs) [] zs is = is
sublist_behind (x ∷ xs) (y ∷ ys) zs is = inr (sublist_behind (x ∷ xs) ys zs is)

-- side by side
pub sublist_beside : (xs ys us vs : List ℕ) → IsSublist xs us → IsSublist ys vs → IsSublist (xs ++ ys) (us ++ vs)
sublist_beside [] ys us vs front back = sublist_behind ys us vs back
sublist_beside (x ∷ xs) ys [] vs front back = absurd front
sublist_beside (x ∷ xs) ys (u ∷ us) vs (inl front) back = inl (front.0, sublist_beside xs ys us vs front.1 back)
sublist_beside (x ∷ xs) ys (u ∷ us) vs (inr front) back = inr (sublist_beside (x ∷ xs) ys us vs front back)

pub sublist_times : (b : ℕ) (xs ys : List ℕ) → IsSublist xs ys → times b xs ≤ times b ys
sublist_times b [] ys is = omega arith
sublist_times b (x ∷ xs) [] is = absurd is
sublist_times b (x ∷ xs) (y ∷ ys) (inl is) =
    let rest = sublist_times b xs ys is.1 in
    omega (arith, rest, times-append b (x ∷ []) xs, times-append b (y ∷ []) ys, ap (λ (z : ℕ). times b (z ∷ [])) is.0)
sublist_times b (x ∷ xs) (y ∷ ys) (inr is) =
    let rest = sublist_times b (x ∷ xs) ys is in
    omega (arith, rest, times-append b (y ∷ []) ys)

-- ---- pages in turn

nonzero-append : (xs ys : List ℕ) → nonzero (xs ++ ys) ≡ nonzero xs ++ nonzero ys
nonzero-append xs ys = filter-append (λ (b : ℕ). not (b == 0)) xs ys

-- no page more
pub turn_none : (turn : List ℕ) (m n : Noted) → n.pages ≡ m.pages → InTurn turn m n
turn_none turn m n e = record {
  new = [];
  noted = ap (λ (ps : List Page). page_blocks ps) e ∙ sym (append-nil (page_blocks m.pages));
  order = tt;
}

-- one page more
pub turn_page : (m : Noted) (page : Page) (left added dropped : List ℕ) → InTurn (page.at ∷ []) m (record { free = left; pages = m.pages ++ page ∷ []; added = added; dropped = dropped })
turn_page m page left added dropped = record { new = page.at ∷ []; noted = map_push (λ (q : Page). q.at) m.pages page; order = sublist_same (page.at ∷ []) }

pub turn_then : (xs ys : List ℕ) {m n o : Noted} → InTurn (nonzero xs) m n → InTurn (nonzero ys) n o → InTurn (nonzero (xs ++ ys)) m o
turn_then xs ys {m = m} first second = record {
  new = first.new ++ second.new;
  noted = second.noted ∙ (ap (λ (v : List ℕ). v ++ second.new) first.noted ∙ append_assoc (page_blocks m.pages) first.new second.new);
  order = subst (λ (v : List ℕ). IsSublist (first.new ++ second.new) v) (sym (nonzero-append xs ys)) (sublist_beside first.new second.new (nonzero xs) (nonzero ys) first.order second.order);
}

pub turn_like : {xs ys : List ℕ} {m n : Noted} → xs ≡ ys → InTurn xs m n → InTurn ys m n
turn_like {m = m} {n = n} e turn = subst (λ (v : List ℕ). InTurn v m n) e turn

-- by the pages alone
pub turn_pages : {turn : List ℕ} (m n m' n' : Noted) → m'.pages ≡ m.pages → n'.pages ≡ n.pages → InTurn turn m n → InTurn turn m' n'
turn_pages m n m' n' em en is = record {
  new = is.new;
  noted = ap (λ (ps : List Page). page_blocks ps) en ∙ (is.noted ∙ ap (λ (ps : List Page). page_blocks ps ++ is.new) (sym em));
  order = is.order;
}

-- so many of the pages are for a block
pub turn_paged : {turn : List ℕ} {m n : Noted} (b : ℕ) → InTurn turn m n → paged b n ≤ paged b m + times b turn
turn_paged {turn = turn} {m = m} b is =
    omega (arith, ap (λ (v : List ℕ). times b v) is.noted, times-append b (page_blocks m.pages) is.new, sublist_times b is.new turn is.order)

-- ---- leaf by leaf

take_set : (xs : List ℕ) (k new : ℕ) → k < length xs → take (suc k) (set xs k new) ≡ take k xs ++ new ∷ []
take_set [] k new lt = absurd (omega (arith, lt))
take_set (x ∷ xs) zero new lt = refl
take_set (x ∷ xs) (suc k) new lt = ap (λ (v : List ℕ). x ∷ v) (take_set xs k new (omega (arith, lt)))

rest_set : (xs : List ℕ) (k new : ℕ) → 1 ≤ k → k < length xs → drop 1 (take (suc k) (set xs k new)) ≡ drop 1 (take k xs) ++ new ∷ []
rest_set [] k new some lt = absurd (omega (arith, lt))
rest_set (x ∷ xs) zero new some lt = absurd (omega (arith, some))
rest_set (x ∷ xs) (suc k) new some lt = take_set xs k new (omega (arith, lt))

-- a leaf more, behind those from 1 on
pub turn_more : (xs : List ℕ) (k new : ℕ) {m n o : Noted} → 1 ≤ k → k < length xs → InTurn (nonzero (drop 1 (take k xs))) m n → InTurn (nonzero (new ∷ [])) n o
    → InTurn (nonzero (drop 1 (take (k + 1) (set xs k new)))) m o
turn_more xs k new some lt first second =
    let next : suc k ≡ k + 1 = omega arith in
    turn_like (ap nonzero (sym (rest_set xs k new some lt) ∙ ap (λ (i : ℕ). drop 1 (take i (set xs k new))) next)) (turn_then (drop 1 (take k xs)) (new ∷ []) first second)

turn_front : (xs : List ℕ) (end : ℕ) {n o : Noted} → InTurn (nonzero (take end xs)) n o → InTurn (nonzero xs) n o
turn_front xs end {n = n} {o = o} is = turn_like (ap nonzero (take-append-drop end xs)) (turn_then (take end xs) (drop end xs) is (turn_none (nonzero (drop end xs)) o o refl))

turn_rest : (xs : List ℕ) (end : ℕ) {n o : Noted} → InTurn (nonzero (drop 1 (take end xs))) n o → InTurn (nonzero (drop 1 xs)) n o
turn_rest xs zero {n = n} {o = o} is = record { new = is.new; noted = is.noted; order = none is.new is.order }
  where
    none : (new : List ℕ) → IsSublist new [] → IsSublist new (nonzero (drop 1 xs))
    none [] order = tt
    none (x ∷ new) order = absurd order
turn_rest [] (suc end) is = is
turn_rest (x ∷ xs) (suc end) is = turn_front xs end is

-- the leaf 0, and then the others
pub turn_all : (xs : List ℕ) (end new : ℕ) {m n o : Noted} → 0 < length xs → slice_index xs 0 ≡ new → InTurn (nonzero (new ∷ [])) m n → InTurn (nonzero (drop 1 (take end xs))) n o → InTurn (nonzero xs) m o
turn_all [] end new some is first rest = absurd (omega (arith, some))
turn_all (x ∷ xs) end new some is first rest = turn_then (x ∷ []) xs (turn_like (ap (λ (t : ℕ). nonzero (t ∷ [])) (sym is)) first) (turn_rest (x ∷ xs) end rest)

-- ---- the index blocks of a tree

pub top_last : (xs ys : List ℕ) (top : ℕ) → nonzero xs ≡ nonzero ys → nonzero (xs ++ top ∷ []) ≡ nonzero (ys ++ top ∷ [])
top_last xs ys top e = nonzero-append xs (top ∷ []) ∙ (ap (λ (v : List ℕ). v ++ nonzero (top ∷ [])) e ∙ sym (nonzero-append ys (top ∷ [])))

pub order_times : (b : ℕ) (read : Blocks) (height ptr : ℕ) → times b (leaves_then_top_below read height ptr) ≡ times b (indexes_below read height ptr)
order_times b read zero ptr = refl
order_times b read (suc zero) ptr = refl
order_times b read (suc (suc height)) ptr = omega (arith, refs-append b (index_at read ptr) (ptr ∷ []), refs-append b (ptr ∷ []) (index_at read ptr))
