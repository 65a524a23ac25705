-- Numbers that are planned one after the other.
use Rattle.std.proofs.Common.{◌≡◌, ◌≤◌, ◌<◌, ℕ, zero, suc, ◌+◌, Bool, true, false, List, [], ◌∷◌, ◌++◌, length, take, drop, drop-cons, get_or, refl, sym, ap, subst, ◌∙◌, arith, append_assoc, length-append}
use Rattle.std.specs.Prelude.{◌||◌, nat_eq, All, IsTrue, Result, Ok, Err, IsErrAnd, IsErrOf, OnErr}
use Rattle.std.specs.List.{AllZip, flat_map}
use Rattle.std.proofs.lemmas.Bool.Decides.{nat_tests}
use Rattle.std.proofs.lemmas.List.{append-nil, take_more, take_all, map-append}
use Rattle.std.proofs.lemmas.List.Concat.{flat_map-append, flat_map-cons}
use Rattle.std.proofs.lemmas.List.Elements.{All-nil, All-cons, All-head, All-tail, All-push}
use Rattle.vol_numbers.specs.Geometry.{layout_of}
use Rattle.vol_numbers.specs.Layout.{Layout}
use Rattle.vol_numbers.specs.declared.block.Block.{Block}
use Rattle.vol_numbers.specs.declared.runs.Change.{Change}
use Rattle.disk_model.specs.Disk.{Given, State}
use Rattle.block_format.specs.Index.{IsPointer}
use Rattle.block_tree.specs.Notes.{page_blocks, change_blocks}
use Rattle.block_tree.specs.Pages.{LeadInto}
use Rattle.block_tree.specs.Tree.{Blocks}
use Rattle.dirty_store.specs.Numbers.{AreOnce, staged_numbers}
use Rattle.held_list.specs.Held.{slots_at}
use Rattle.inode_file.specs.Inodes.{inode_of}
use Rattle.inode_file.specs.Loading.{IsWhole}
use Rattle.node_plan.specs.Faults.{HasNodeCause, IsNodeDamage}
use Rattle.node_plan.specs.Nodes.{rough_need}
use Rattle.node_plan.specs.declared.fault.NodeFault.{NodeFault}
use Rattle.node_plan.specs.declared.fault.NodeFault.TheVariants.{ReadFault, Damaged, OutOfMemory, Short}
use Rattle.tree_plan.specs.Pages.{slots_or_none}
use Rattle.place_words.specs.Different.{is_among, times}
use Rattle.place_words.specs.Rising.{Rising}
use Rattle.point_model.specs.NodePlan.{AreOfPlaces}
use Rattle.point_plan.specs.Gathered.{numbers_in, pages_in}
use Rattle.point_plan.specs.Nodes.{Ascend, all_added}
use Rattle.point_plan.specs.PlanNodes.{IsPlanOf, IsPlanOver, IsPlanWhereTold, StopsShort, need_at}
use Rattle.point_plan.specs.State.{HoldsPoint, IsStagedWithin}
use Rattle.point_plan.specs.declared.planned_node.PlannedNode.{PlannedNode}
use Rattle.point_plan.specs.declared.state.PointState.{PointState}
use Rattle.point_plan.proofs.NodesPlanned.{numbers_ascend}
use Rattle.point_plan.proofs.Times.{times_append}
use Rattle.volume_model.specs.Machine.{Machine, Rules}

-- ---- lists of which the front has been gone over

-- This one is at a place of a list, and the others are behind it.
pub record IsAt {A : Type 0} (xs : List A) (k : ℕ) (x : A) : Type 0 where
  pub within : k < length xs
  pub front : drop k xs ≡ x ∷ drop (k + 1) xs
  pub is : (d : A) → get_or xs k d ≡ x

not_empty : {A : Type 0} (x : A) (rest : List A) → [] ≡ x ∷ rest → ⊥
not_empty x rest e = cc

is_at : {A : Type 0} (xs : List A) (k : ℕ) (x : A) (rest : List A) → drop k xs ≡ x ∷ rest → IsAt xs k x × (rest ≡ drop (k + 1) xs)
is_at [] zero x rest e = absurd (not_empty x rest e)
is_at [] (suc k) x rest e = absurd (not_empty x rest e)
is_at {A = A} (y ∷ xs) zero x rest e = (record { within = omega arith; front = e ∙ ap (λ (l : List A). x ∷ l) (sym tail); is = λ d. head }, sym tail)
  where
    head : y ≡ x
    head = cc

    tail : xs ≡ rest
    tail = cc
is_at (y ∷ xs) (suc k) x rest e =
    let more = is_at xs k x rest e in
    let next : suc (k + 1) ≡ suc k + 1 = omega arith in
    let behind : drop (k + 1) xs ≡ drop (suc k + 1) (y ∷ xs) = ap (λ (i : ℕ). drop i (y ∷ xs)) next in
    (record { within = omega (arith, more.0.within); front = more.0.front ∙ ap (λ l. x ∷ l) behind; is = more.0.is }, more.1 ∙ behind)

-- what stands at a place
pub at_place : {A : Type 0} (xs : List A) (k : ℕ) (x : A) → k < length xs → x ≡ get_or xs k x → IsAt xs k x
at_place xs k x lt is = (is_at xs k x (drop (suc k) xs) (drop-cons xs k x lt ∙ ap (λ y. y ∷ drop (suc k) xs) (sym is))).0

pub number_place : (xs : List ℕ) (k : ℕ) → k < length xs → IsAt xs k (get_or xs k 0)
number_place xs k lt = (is_at xs k (get_or xs k 0) (drop (suc k) xs) (drop-cons xs k 0 lt)).0

zip_drop : {A B : Type 0} (R : A → B → Type 0) (xs : List A) (ys : List B) (k : ℕ) → AllZip R xs ys → AllZip R (drop k xs) (drop k ys)
zip_drop R xs ys zero all = all
zip_drop R [] [] (suc k) all = tt
zip_drop R [] (y ∷ ys) (suc k) all = absurd all
zip_drop R (x ∷ xs) [] (suc k) all = absurd all
zip_drop R (x ∷ xs) (y ∷ ys) (suc k) all = zip_drop R xs ys k all.1

-- what holds pair by pair holds of the two at a place
pub zip_at : {A B : Type 0} (R : A → B → Type 0) (xs : List A) (ys : List B) (k : ℕ) (x : A) (y : B) → AllZip R xs ys → IsAt xs k x → IsAt ys k y → R x y
zip_at {A = A} {B = B} R xs ys k x y all here there = (both (zip_drop R xs ys k all)).0
  where
    both : AllZip R (drop k xs) (drop k ys) → AllZip R (x ∷ drop (k + 1) xs) (y ∷ drop (k + 1) ys)
    both zipped = subst (λ (l : List B). AllZip R (x ∷ drop (k + 1) xs) l) there.front (subst (λ (l : List A). AllZip R l (drop k ys)) here.front zipped)

pub zip_long : {A B : Type 0} (R : A → B → Type 0) (xs : List A) (ys : List B) → AllZip R xs ys → length xs ≡ length ys
zip_long R [] [] all = refl
zip_long R [] (y ∷ ys) all = absurd all
zip_long R (x ∷ xs) [] all = absurd all
zip_long R (x ∷ xs) (y ∷ ys) all = ap suc (zip_long R xs ys all.1)

all_at : {A : Type 0} (P : A → Type 0) (xs : List A) (k : ℕ) (x : A) → All P xs → IsAt xs k x → P x
all_at P xs k x all here = subst P (here.is x) (all k x here.within)

among_at : (xs : List ℕ) (k n : ℕ) → IsAt xs k n → is_among xs n ≡ true
among_at xs k n here = go xs k here.within (here.is n)
  where
    either : (a : Bool) → (a || true) ≡ true
    either true = refl
    either false = refl

    go : (xs : List ℕ) (k : ℕ) → k < length xs → get_or xs k n ≡ n → is_among xs n ≡ true
    go [] k lt is = absurd (omega (arith, lt))
    go (x ∷ xs) zero lt is = let same : nat_eq x n ≡ true = grind (arith, nat_tests) in ap (λ (t : Bool). t || is_among xs n) same
    go (x ∷ xs) (suc k) lt is = ap (λ (t : Bool). nat_eq x n || t) (go xs k (omega (arith, lt)) is) ∙ either (nat_eq x n)

all_among : (P : ℕ → Type 0) (xs : List ℕ) (n : ℕ) → All P xs → is_among xs n ≡ true → P n
all_among P [] n all among = absurd (never among)
  where
    never : false ≡ true → ⊥
    never e = cc
all_among P (x ∷ xs) n all among = by (nat_eq x n) refl among (all_among P xs n (All-tail P x xs all))
  where
    by : (t : Bool) → nat_eq x n ≡ t → (t || is_among xs n) ≡ true → (is_among xs n ≡ true → P n) → P n
    by true is e more = let same : x ≡ n = grind (arith, nat_tests) in subst P same (All-head P x xs all)
    by false is e more = more e

all_from_among : (P : ℕ → Type 0) (xs : List ℕ) → ((n : ℕ) → is_among xs n ≡ true → P n) → All P xs
all_from_among P [] each = All-nil P
all_from_among P (x ∷ xs) each = All-cons P x xs (each x here) (all_from_among P xs (λ n among. each n (ap (λ (t : Bool). nat_eq x n || t) among ∙ either (nat_eq x n))))
  where
    either : (a : Bool) → (a || true) ≡ true
    either true = refl
    either false = refl

    here : is_among (x ∷ xs) x ≡ true
    here = let same : nat_eq x x ≡ true = grind (arith, nat_tests) in ap (λ (t : Bool). t || is_among xs x) same

-- staged numbers are those of nodes
pub numbers_within : (s : PointState) (numbers : List ℕ) → IsStagedWithin s → AreOnce (staged_numbers s.dirty.overlay) numbers → All (λ n. (1 ≤ n) × (n ≤ 65535)) numbers
numbers_within s numbers staged once =
    all_from_among (λ n. (1 ≤ n) × (n ≤ 65535)) numbers (λ n among. all_among (λ m. (1 ≤ m) × (m ≤ 65535)) (staged_numbers s.dirty.overlay) n staged.numbers (sym (once.each n) ∙ among))

rise_from_one : (numbers : List ℕ) → Rising 0 numbers → All (λ n. (1 ≤ n) × (n ≤ 65535)) numbers → Rising 1 numbers
rise_from_one [] rising within = tt
rise_from_one (n ∷ ns) rising within = ((All-head (λ n. (1 ≤ n) × (n ≤ 65535)) n ns within).0, rising.1)

-- there are no more of them than numbers of nodes
few_from : (low : ℕ) (numbers : List ℕ) → low ≤ 65536 → Rising low numbers → All (λ n. (1 ≤ n) × (n ≤ 65535)) numbers → low + length numbers ≤ 65536
few_from low [] le rising within = omega (arith, le)
few_from low (n ∷ ns) le rising within =
    let here = (All-head (λ m. (1 ≤ m) × (m ≤ 65535)) n ns within).1 in
    let more = few_from (n + 1) ns (omega (arith, here)) rising.1 (All-tail (λ m. (1 ≤ m) × (m ≤ 65535)) n ns within) in
    omega (arith, more, rising.0)

pub few_numbers : (s : PointState) (numbers : List ℕ) → IsStagedWithin s → AreOnce (staged_numbers s.dirty.overlay) numbers → length numbers ≤ 65536
few_numbers s numbers staged once = let most = few_from 0 numbers (omega arith) once.rises (numbers_within s numbers staged once) in omega (arith, most)

of_nodes : (nodes : List PlannedNode) → All (λ n. (1 ≤ n) × (n ≤ 65535)) (numbers_in nodes) → All (λ (p : PlannedNode). p.number < 65536) nodes
of_nodes [] within = All-nil (λ (p : PlannedNode). p.number < 65536)
of_nodes (p ∷ ps) within =
    let here = (All-head (λ n. (1 ≤ n) × (n ≤ 65535)) p.number (numbers_in ps) within).1 in
    All-cons (λ (q : PlannedNode). q.number < 65536) p ps (omega (arith, here)) (of_nodes ps (All-tail (λ n. (1 ≤ n) × (n ≤ 65535)) p.number (numbers_in ps) within))

-- so nodes that have them ascend
pub nodes_ascend : (s : PointState) (numbers : List ℕ) (nodes : List PlannedNode) → IsStagedWithin s → AreOnce (staged_numbers s.dirty.overlay) numbers → numbers_in nodes ≡ numbers → Ascend 1 nodes
nodes_ascend s numbers nodes staged once same =
    let within = numbers_within s numbers staged once in
    numbers_ascend 1 nodes (subst (Rising 1) (sym same) (rise_from_one numbers once.rises within)) (of_nodes nodes (subst (λ (ns : List ℕ). All (λ n. (1 ≤ n) × (n ≤ 65535)) ns) (sym same) within))

-- a staged number is that of a node
pub staged_number : (s : PointState) (numbers : List ℕ) (k n : ℕ) → IsStagedWithin s → AreOnce (staged_numbers s.dirty.overlay) numbers → IsAt numbers k n → (1 ≤ n) × (n ≤ 65535)
staged_number s numbers k n staged once here = all_among (λ m. (1 ≤ m) × (m ≤ 65535)) (staged_numbers s.dirty.overlay) n staged.numbers (sym (once.each n) ∙ among_at numbers k n here)

-- ---- what is planned so far

-- Nodes are planned of the first numbers, and their pages have the first of the free blocks.
pub record AreSoFar (tells : Bool) (old : List Block) (s : PointState) (numbers : List ℕ) (changes : List (List Change)) (free : List ℕ) (nodes : List PlannedNode) (left : List ℕ) : Type 0 where
  pub listed : numbers_in nodes ≡ take (length nodes) numbers
  pub plans : All (IsPlanOf s) nodes
  pub over : All (IsPlanWhereTold tells old s numbers changes) nodes
  pub begins : All (IsPointer (layout_of s.geometry)) free → All (LeadInto (layout_of s.geometry)) changes → All (λ (p : PlannedNode). IsWhole (layout_of s.geometry) p.is) nodes
  pub used : (b : ℕ) → times b (all_added nodes) ≤ times b (pages_in nodes) + times b (flat_map change_blocks (take (length nodes) changes))
  pub taken : pages_in nodes ++ left ≡ free

pub none_so_far : (tells : Bool) (old : List Block) (s : PointState) (numbers : List ℕ) (changes : List (List Change)) (free : List ℕ) → AreSoFar tells old s numbers changes free [] free
none_so_far tells old s numbers changes free = record {
  listed = refl;
  plans = All-nil (IsPlanOf s);
  over = All-nil (IsPlanWhereTold tells old s numbers changes);
  begins = λ area leads. All-nil (λ (p : PlannedNode). IsWhole (layout_of s.geometry) p.is);
  used = λ b. omega arith;
  taken = refl;
}

-- What is planned of the next number.
pub record IsNext (tells : Bool) (old : List Block) (s : PointState) (free : List ℕ) (n : ℕ) (own : List Change) (p : PlannedNode) (left : List ℕ) : Type 0 where
  pub number : p.number ≡ n
  pub plan : IsPlanOf s p
  pub over : IsPlanWhereTold tells old s (n ∷ []) (own ∷ []) p
  pub begins : All (IsPointer (layout_of s.geometry)) free → LeadInto (layout_of s.geometry) own → IsWhole (layout_of s.geometry) p.is
  pub used : (b : ℕ) → times b p.added ≤ times b (page_blocks p.pages) + times b (change_blocks own)
  pub taken : page_blocks p.pages ++ left ≡ free

all_behind : (P : ℕ → Type 0) (xs ys : List ℕ) → All P (xs ++ ys) → All P ys
all_behind P [] ys all = all
all_behind P (x ∷ xs) ys all = all_behind P xs ys (All-tail P x (xs ++ ys) all)

module _ (tells : Bool) (old : List Block) (s : PointState) (numbers : List ℕ) (changes : List (List Change)) (free : List ℕ) (nodes : List PlannedNode) (left : List ℕ) (far : AreSoFar tells old s numbers changes free nodes left) (n : ℕ) (own : List Change)
    (number_at : IsAt numbers (length nodes) n) (own_at : IsAt changes (length nodes) own) where
  one_more : (p : PlannedNode) → length (nodes ++ p ∷ []) ≡ length nodes + 1
  one_more p = length-append nodes (p ∷ [])

  front_more : {A : Type 0} (xs : List A) (x : A) → IsAt xs (length nodes) x → (p : PlannedNode) → take (length (nodes ++ p ∷ [])) xs ≡ take (length nodes) xs ++ x ∷ []
  front_more xs x here p = ap (λ (k : ℕ). take k xs) (one_more p) ∙ take_more xs (length nodes) x here.within ∙ ap (λ y. take (length nodes) xs ++ y ∷ []) (here.is x)

  flat_more : {A B : Type 0} (f : A → List B) (xs : List A) (x : A) → flat_map f (xs ++ x ∷ []) ≡ flat_map f xs ++ f x
  flat_more f xs x = flat_map-append f xs (x ∷ []) ∙ ap (λ l. flat_map f xs ++ l) (flat_map-cons f x [] ∙ append-nil (f x))

  -- the number's own places are those of its changes
  over_all : (m : Machine) (p : PlannedNode) → IsPlanOver old s m (n ∷ []) (own ∷ []) p → IsPlanOver old s m numbers changes p
  over_all m p one = record {
    planned = λ placed places. one.planned placed (zip_at (AreOfPlaces m.dirty placed) numbers changes (length nodes) n own places number_at own_at, tt);
    metadata_before = one.metadata_before;
    metadata = one.metadata;
    at_most = one.at_most;
  }

  pub one_so_far : (p : PlannedNode) (rest : List ℕ) → IsNext tells old s left n own p rest → AreSoFar tells old s numbers changes free (nodes ++ p ∷ []) rest
  one_so_far p rest next = record {
    listed = map-append (λ (q : PlannedNode). q.number) nodes (p ∷ []) ∙ (λ i. far.listed i ++ next.number i ∷ []) ∙ sym (front_more numbers n number_at p);
    plans = All-push (IsPlanOf s) nodes p far.plans next.plan;
    over = All-push (IsPlanWhereTold tells old s numbers changes) nodes p far.over (λ told r m holds. over_all m p (next.over told r m holds));
    begins = λ area leads.
        All-push (λ (q : PlannedNode). IsWhole (layout_of s.geometry) q.is) nodes p (far.begins area leads)
        (next.begins (all_behind (IsPointer (layout_of s.geometry)) (pages_in nodes) left (subst (λ (bs : List ℕ). All (IsPointer (layout_of s.geometry)) bs) (sym far.taken) area))
        (all_at (LeadInto (layout_of s.geometry)) changes (length nodes) own leads own_at));
    used = λ b.
        let added = ap (times b) (flat_more (λ (q : PlannedNode). q.added) nodes p) ∙ times_append b (all_added nodes) p.added in
        let pages = ap (times b) (flat_more (λ (q : PlannedNode). page_blocks q.pages) nodes p) ∙ times_append b (pages_in nodes) (page_blocks p.pages) in
        let blocks =
        ap (λ (l : List (List Change)). times b (flat_map change_blocks l)) (front_more changes own own_at p)
        ∙ ap (times b) (flat_more change_blocks (take (length nodes) changes) own)
        ∙ times_append b (flat_map change_blocks (take (length nodes) changes)) (change_blocks own) in
        omega (arith, added, pages, blocks, far.used b, next.used b);
    taken =
        ap (λ (bs : List ℕ). bs ++ rest) (flat_more (λ (q : PlannedNode). page_blocks q.pages) nodes p)
        ∙ append_assoc (pages_in nodes) (page_blocks p.pages) rest
        ∙ ap (λ (bs : List ℕ). pages_in nodes ++ bs) next.taken
        ∙ far.taken;
  }

  -- where too few blocks are left for the next number, the planning stops short
  pub stops_short : length left < rough_need s.dirty.overlay n (inode_of s.inodes.inodes n) (slots_or_none (slots_at s.directories n)) own → StopsShort tells old s numbers changes free
  stops_short few = record {
    place = length nodes;
    within = number_at.within;
    nodes = nodes;
    listed = far.listed;
    rest = left;
    taken = far.taken;
    plans = far.plans;
    planned = far.over;
    short = omega (arith, few, ap length far.taken, length-append (pages_in nodes) left, need);
  }
    where
      need : need_at s numbers changes (length nodes) ≡ rough_need s.dirty.overlay n (inode_of s.inodes.inodes n) (slots_or_none (slots_at s.directories n)) own
      need = λ i. rough_need s.dirty.overlay (number_at.is 0 i) (inode_of s.inodes.inodes (number_at.is 0 i)) (slots_or_none (slots_at s.directories (number_at.is 0 i))) (own_at.is [] i)

-- ---- all of them

-- Nodes are planned of all numbers.
pub record AreAll (tells : Bool) (old : List Block) (s : PointState) (numbers : List ℕ) (changes : List (List Change)) (free : List ℕ) (nodes : List PlannedNode) (left : List ℕ) : Type 0 where
  pub far : AreSoFar tells old s numbers changes free nodes left
  pub listed : numbers_in nodes ≡ numbers
  pub used : (b : ℕ) → times b (all_added nodes) ≤ times b (pages_in nodes) + times b (flat_map change_blocks changes)

pub all_so_far : (tells : Bool) (old : List Block) (s : PointState) (numbers : List ℕ) (changes : List (List Change)) (free : List ℕ) (nodes : List PlannedNode) (left : List ℕ) → AreSoFar tells old s numbers changes free nodes left
    → (length numbers ≤ length nodes) × (length changes ≤ length nodes) → AreAll tells old s numbers changes free nodes left
all_so_far tells old s numbers changes free nodes left far gone = record {
  far = far;
  listed = far.listed ∙ take_all (length nodes) numbers gone.0;
  used = λ b. omega (arith, far.used b, ap (λ (l : List (List Change)). times b (flat_map change_blocks l)) (take_all (length nodes) changes gone.1));
}

-- ---- faults that are passed on

-- the state of the disk is the same as before
pub plan_at : (tells : Bool) (now before : State) (s : PointState) (numbers : List ℕ) (changes : List (List Change)) (p : PlannedNode) → (IsTrue tells → now ≡ before) → IsPlanWhereTold tells now.contents s numbers changes p → IsPlanWhereTold tells before.contents s numbers changes p
plan_at tells now before s numbers changes p same plan = λ told. subst (λ (st : State). (r : Rules) (m : Machine) → HoldsPoint r m st.contents s → IsPlanOver st.contents s m numbers changes p) (same told) (plan told)

pub passed : {T : Type 0} (r : Result T NodeFault) (fault : NodeFault) → IsErrAnd r (λ f. f ≡ fault) → r ≡ Err fault
passed (Ok value) fault same = absurd same
passed (Err f) fault same = ap Err same

pub on_error : {T : Type 0} (r : Result T NodeFault) (fault : NodeFault) (P : Type 0) → IsErrAnd r (λ f. f ≡ fault) → P → OnErr r P
on_error (Ok value) fault P same is = absurd same
on_error (Err f) fault P same is = is

-- an answer that was passed on was this fault already
pub was_error : (A : Type 0) {T : Type 0} (r : Result T NodeFault) (fault other : NodeFault) → IsErrAnd r (λ f. f ≡ fault) → IsErrOf r other → IsErrOf {T = A} (Err fault) other
was_error A (Ok value) fault other same is = absurd same
was_error A {T = T} (Err f) fault other same is = ap Err (sym same ∙ inner is)
  where
    inner : IsErrOf {T = T} (Err f) other → f ≡ other
    inner e = cc

damage_earlier : (A B : Type 0) (g : Layout) (tells : Bool) (contents : Blocks) (old middle new : Given) (fault : NodeFault) → old.count ≤ middle.count → IsNodeDamage {T = A} g tells contents middle new (Err fault) → IsNodeDamage {T = B} g tells contents old new (Err fault)
damage_earlier A B g tells contents old middle new ReadFault le is = tt
damage_earlier A B g tells contents old middle new (Damaged b) le is = record { number = is.number; rose = omega (arith, le, is.rose); outside = is.outside; pointer = is.pointer; stands = is.stands }
damage_earlier A B g tells contents old middle new OutOfMemory le is = tt
damage_earlier A B g tells contents old middle new Short le is = tt

-- a later call's damage is that of all calls
pub damage_passed : (A B : Type 0) (g : Layout) (tells : Bool) (contents : Blocks) (old middle new : Given) (r : Result B NodeFault) (fault : NodeFault) → IsErrAnd r (λ f. f ≡ fault) → old.count ≤ middle.count
    → IsNodeDamage {T = A} g tells contents middle new (Err fault) → IsNodeDamage g tells contents old new r
damage_passed A B g tells contents old middle new r fault same le is =
    subst (IsNodeDamage {T = B} g tells contents old new) (sym (passed r fault same)) (damage_earlier A B g tells contents old middle new fault le is)

cause_of : (A B : Type 0) (old new : ℕ) (fault : NodeFault) → HasNodeCause {T = A} old new (Err fault) → HasNodeCause {T = B} old new (Err fault)
cause_of A B old new ReadFault is = is
cause_of A B old new (Damaged b) is = is
cause_of A B old new OutOfMemory is = is
cause_of A B old new Short is = is

pub cause_passed : (A B : Type 0) (old middle new : ℕ) (r : Result B NodeFault) (fault : NodeFault) → IsErrAnd r (λ f. f ≡ fault) → middle ≡ old → HasNodeCause {T = A} middle new (Err fault) → HasNodeCause old new r
cause_passed A B old middle new r fault same is cause =
    subst (HasNodeCause {T = B} old new) (sym (passed r fault same)) (cause_of A B old new fault (subst (λ (k : ℕ). HasNodeCause {T = A} k new (Err fault)) is cause))
