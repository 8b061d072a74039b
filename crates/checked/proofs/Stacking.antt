-- What an instruction's effect on a shape says of the values on the stack, and the arguments of a call.
use Rattle.std.proofs.Common.{◌≡◌, ℕ, suc, ◌<◌, ◌≤◌, Bool, true, false, ◌&&◌, cond, ltb, leb, List, [], ◌∷◌, ◌++◌, map, reverse, length, get_or, take, drop, set, Some, None, Option, sym, refl, ap, ◌∙◌, subst, append_assoc, arith, take-append-drop, ltb-true, leb-true}
use Rattle.bytecode.specs.declared.kind.Kind.{Kind}
use Rattle.bytecode.specs.declared.kind.Kind.TheVariants.{Unknown, Word, Reference as Ref}
use Rattle.bytecode.specs.Outcome.{good}
use Rattle.heap.specs.Checked.{Reference, null}
use Rattle.std.proofs.lemmas.List.{reverse-append, reverse-reverse, append-nil}
use Rattle.bytecode.specs.Program.{Signature}
use Rattle.host.specs.Hosts.{fits, is_of, references as count_references}
use Rattle.plan.specs.Shapes.{Shape, eq_kind, eq_kinds}
use Rattle.plan.specs.Effects.{fixed, load, store, pop, dup, swap, alike, give, perform, performed, within, keeping, check, room, loaded, stored, popped, doubled, swapped, compared, returned}
use Rattle.plan.proofs.Reaching.{eq_kind-is, eq_kinds-is}
use Rattle.checked.specs.Machine.{Value, word, reference, kind_of, is_kind, takes, arguments, argument_of, references}

-- ## Values with kinds

pub data Kinded : List Value → List Kind → Type 0 where
  bare : Kinded [] []
  words : {n : ℕ} {st : List Value} {ks : List Kind} → Kinded st ks → Kinded (word n ∷ st) (Word ∷ ks)
  refs : {r : Reference} {st : List Value} {ks : List Kind} → Kinded st ks → Kinded (reference r ∷ st) (Ref ∷ ks)

pub kinded : (st : List Value) → Kinded st (map kind_of st)
kinded [] = bare
kinded (word n ∷ st) = words (kinded st)
kinded (reference r ∷ st) = refs (kinded st)

pub kinded_at : (st : List Value) (ks : List Kind) → map kind_of st ≡ ks → Kinded st ks
kinded_at st ks e = subst (Kinded st) e (kinded st)

pub kinds_are : {st : List Value} {ks : List Kind} → Kinded st ks → map kind_of st ≡ ks
kinds_are bare = refl
kinds_are (words k) = ap (λ ks. Word ∷ ks) (kinds_are k)
kinds_are (refs k) = ap (λ ks. Ref ∷ ks) (kinds_are k)

pub kinded_length : {st : List Value} {ks : List Kind} → Kinded st ks → length st ≡ length ks
kinded_length bare = refl
kinded_length (words k) = ap suc (kinded_length k)
kinded_length (refs k) = ap suc (kinded_length k)

-- ## Effects that passed

-- the kinds taken lay on top, and others took their place
pub record Replaced (wanted left : List Kind) (s r : Shape) : Type 0 where
  pub rest : List Kind
  pub before : s.stack ≡ wanted ++ rest
  pub after : r.stack ≡ left ++ rest
  pub low : length r.stack ≤ 32
  pub same : r.variables ≡ s.variables

pub replaced : (f p V : ℕ) (wanted left : List Kind) (s r : Shape) → perform f p V (fixed wanted left) s ≡ good r → Replaced wanted left s r
unfolding perform
replaced f p V wanted left s r e =
    go (leb (length wanted) (length s.stack)) refl (eq_kinds (take (length wanted) s.stack) wanted) refl
    (leb (length (left ++ drop (length wanted) s.stack)) 32) refl e
  where
    go : (a : Bool) → leb (length wanted) (length s.stack) ≡ a → (b : Bool) → eq_kinds (take (length wanted) s.stack) wanted ≡ b
        → (c : Bool) → leb (length (left ++ drop (length wanted) s.stack)) 32 ≡ c
        → keeping f p s.variables (check a (18, f, p) (check b (20, f, p) (check c (19, f, p) (good (left ++ drop (length wanted) s.stack))))) ≡ good r
        → Replaced wanted left s r
    go false pa b pb c pc h = cc
    go true pa false pb c pc h = cc
    go true pa true pb false pc h = cc
    go true pa true pb true pc h =
        let q = eq_kinds-is (take (length wanted) s.stack) wanted pb in
        let l = leb-true (length (left ++ drop (length wanted) s.stack)) 32 pc in
        let t : r.stack ≡ left ++ drop (length wanted) s.stack = cc in
        record {
          rest = drop (length wanted) s.stack;
          before = sym (take-append-drop (length wanted) s.stack) ∙ ap (λ k. k ++ drop (length wanted) s.stack) q;
          after = t;
          low = let m = ap length t in omega arith;
          same = cc;
        }

-- an entry of a pool that there is was put on the stack
pub from_pool : (f p V c count : ℕ) (k : Kind) (s r : Shape) → performed f p V s (within c count (fixed [] (k ∷ []))) ≡ good r
    → (c < count) × Replaced [] (k ∷ []) s r
from_pool f p V c count k s r e = go (ltb c count) refl e
  where
    go : (b : Bool) → ltb c count ≡ b → performed f p V s (cond b (Some (fixed [] (k ∷ []))) None) ≡ good r → (c < count) × Replaced [] (k ∷ []) s r
    go false q h = cc
    go true q h = (ltb-true c count q, replaced f p V [] (k ∷ []) s r h)

-- a variable of a known kind was put on the stack
pub record Loaded (i V : ℕ) (s r : Shape) : Type 0 where
  pub kind : Kind
  pub inside : i < V
  pub known : kind ≡ Unknown → ⊥
  pub there : get_or s.variables i Unknown ≡ kind
  pub after : r.stack ≡ kind ∷ s.stack
  pub low : length r.stack ≤ 32
  pub same : r.variables ≡ s.variables

roomy : (f p : ℕ) (vs st : List Kind) (r : Shape) → keeping f p vs (room f p st) ≡ good r
    → (r.stack ≡ st) × (length r.stack ≤ 32) × (r.variables ≡ vs)
roomy f p vs st r e = go (leb (length st) 32) refl e
  where
    go : (c : Bool) → leb (length st) 32 ≡ c → keeping f p vs (check c (19, f, p) (good st)) ≡ good r
        → (r.stack ≡ st) × (length r.stack ≤ 32) × (r.variables ≡ vs)
    go false q h = cc
    go true q h =
        let l = leb-true (length st) 32 q in
        let t : r.stack ≡ st = cc in
        (t, (let m = ap length t in omega arith), cc)

pub loads : (f p V i : ℕ) (s r : Shape) → perform f p V (load i) s ≡ good r → Loaded i V s r
unfolding perform
loads f p V i s r e = go (ltb i V) refl (get_or s.variables i Unknown) refl e
  where
    go : (a : Bool) → ltb i V ≡ a → (k : Kind) → get_or s.variables i Unknown ≡ k
        → check a (21, f, p) (keeping f p s.variables (loaded f p k s.stack)) ≡ good r → Loaded i V s r
    go false q k g h = cc
    go true q Unknown g h = cc
    go true q Word g h =
        let t = roomy f p s.variables (Word ∷ s.stack) r h in
        record { kind = Word; inside = ltb-true i V q; known = λ e. cc; there = g; after = t.0; low = t.1; same = t.2 }
    go true q Ref g h =
        let t = roomy f p s.variables (Ref ∷ s.stack) r h in
        record { kind = Ref; inside = ltb-true i V q; known = λ e. cc; there = g; after = t.0; low = t.1; same = t.2 }

-- the top of the stack was put into a variable
pub record Stored (i V : ℕ) (s r : Shape) : Type 0 where
  pub kind : Kind
  pub inside : i < V
  pub before : s.stack ≡ kind ∷ r.stack
  pub after : r.variables ≡ set s.variables i kind

pub stores : (f p V i : ℕ) (s r : Shape) → perform f p V (store i) s ≡ good r → Stored i V s r
unfolding perform
stores f p V i s r e = go (ltb i V) refl s.stack refl e
  where
    go : (a : Bool) → ltb i V ≡ a → (st : List Kind) → s.stack ≡ st → check a (21, f, p) (stored f p i s.variables st) ≡ good r
        → Stored i V s r
    go false q st g h = cc
    go true q [] g h = cc
    go true q (k ∷ st) g h = record { kind = k; inside = ltb-true i V q; before = cc; after = cc }

-- any one or two kinds
pub record Popped (s r : Shape) : Type 0 where
  pub kind : Kind
  pub before : s.stack ≡ kind ∷ r.stack
  pub same : r.variables ≡ s.variables

pub pops : (f p V : ℕ) (s r : Shape) → perform f p V pop s ≡ good r → Popped s r
unfolding perform
pops f p V s r e = go s.stack refl e
  where
    go : (st : List Kind) → s.stack ≡ st → keeping f p s.variables (popped f p st) ≡ good r → Popped s r
    go [] g h = cc
    go (k ∷ st) g h = record { kind = k; before = cc; same = cc }

pub record Doubled (s r : Shape) : Type 0 where
  pub kind : Kind
  pub rest : List Kind
  pub before : s.stack ≡ kind ∷ rest
  pub after : r.stack ≡ kind ∷ kind ∷ rest
  pub low : length r.stack ≤ 32
  pub same : r.variables ≡ s.variables

pub doubles : (f p V : ℕ) (s r : Shape) → perform f p V dup s ≡ good r → Doubled s r
unfolding perform
doubles f p V s r e = go s.stack refl e
  where
    go : (st : List Kind) → s.stack ≡ st → keeping f p s.variables (doubled f p st) ≡ good r → Doubled s r
    go [] g h = cc
    go (k ∷ st) g h =
        let t = roomy f p s.variables (k ∷ k ∷ st) r h in
        record { kind = k; rest = st; before = g; after = t.0; low = t.1; same = t.2 }

pub record Swapped (s r : Shape) : Type 0 where
  pub top : Kind
  pub second : Kind
  pub rest : List Kind
  pub before : s.stack ≡ top ∷ second ∷ rest
  pub after : r.stack ≡ second ∷ top ∷ rest
  pub same : r.variables ≡ s.variables

pub swaps : (f p V : ℕ) (s r : Shape) → perform f p V swap s ≡ good r → Swapped s r
unfolding perform
swaps f p V s r e = go s.stack refl e
  where
    go : (st : List Kind) → s.stack ≡ st → keeping f p s.variables (swapped f p st) ≡ good r → Swapped s r
    go [] g h = cc
    go (k ∷ []) g h = cc
    go (k ∷ l ∷ st) g h = record { top = k; second = l; rest = st; before = g; after = cc; same = cc }

-- two of one kind
pub record Paired (s r : Shape) : Type 0 where
  pub kind : Kind
  pub before : s.stack ≡ kind ∷ kind ∷ r.stack
  pub same : r.variables ≡ s.variables

pub pairs : (f p V : ℕ) (s r : Shape) → perform f p V alike s ≡ good r → Paired s r
unfolding perform
pairs f p V s r e = go s.stack refl e
  where
    two : (k l : Kind) (st : List Kind) → s.stack ≡ k ∷ l ∷ st → (b : Bool) → eq_kind k l ≡ b
        → keeping f p s.variables (check b (20, f, p) (good st)) ≡ good r → Paired s r
    two k l st g false q h = cc
    two k l st g true q h =
        let i = eq_kind-is k l q in
        let t : r.stack ≡ st = cc in
        record { kind = k; before = g ∙ ap (λ m. k ∷ m ∷ st) (sym i) ∙ ap (λ m. k ∷ k ∷ m) (sym t); same = cc }

    go : (st : List Kind) → s.stack ≡ st → keeping f p s.variables (compared f p st) ≡ good r → Paired s r
    go [] g h = cc
    go (k ∷ []) g h = cc
    go (k ∷ l ∷ st) g h = two k l st g (eq_kind k l) refl h

-- a return has its result as the only entry
pub gives_result : (f p V : ℕ) (k : Kind) (s r : Shape) → perform f p V (give k) s ≡ good r → s.stack ≡ k ∷ []
unfolding perform
gives_result f p V k s r e = go s.stack refl e
  where
    one : (l : Kind) → s.stack ≡ l ∷ [] → (b : Bool) → eq_kind l k ≡ b
        → keeping f p s.variables (check b (20, f, p) (good [])) ≡ good r → s.stack ≡ k ∷ []
    one l g false q h = cc
    one l g true q h = let i = eq_kind-is l k q in cc

    go : (st : List Kind) → s.stack ≡ st → keeping f p s.variables (returned f p k st) ≡ good r → s.stack ≡ k ∷ []
    go [] g h = cc
    go (l ∷ []) g h = one l g (eq_kind l k) refl h
    go (l ∷ m ∷ st) g h = cc

-- ## Arguments

pub is_kind_lem : (v : Value) → is_kind (kind_of v) v ≡ true
is_kind_lem (word n) = refl
is_kind_lem (reference r) = refl

-- arguments taken off a stack that has their kinds on top
pub record Took (ks u : List Kind) (st acc : List Value) : Type 0 where
  pub args : List Value
  pub left : List Value
  pub takes_them : takes ks st acc ≡ Some (record { values = args; left = left })
  pub kinds_left : map kind_of left ≡ u
  pub kinds_args : map kind_of args ≡ reverse ks ++ map kind_of acc
  pub whole : reverse acc ++ st ≡ reverse args ++ left

regroup : (k : Kind) (ks ls : List Kind) → reverse ks ++ (k ∷ ls) ≡ reverse (k ∷ ks) ++ ls
regroup k ks ls =
    sym (append_assoc (reverse ks) (k ∷ []) ls) ∙ ap (λ m. m ++ ls) (sym (reverse-append (k ∷ []) ks))

regroup_values : (v : Value) (acc st : List Value) → reverse (v ∷ acc) ++ st ≡ reverse acc ++ (v ∷ st)
regroup_values v acc st =
    ap (λ m. m ++ st) (reverse-append (v ∷ []) acc) ∙ append_assoc (reverse acc) (v ∷ []) st

pub takes_all : (ks u : List Kind) (st acc : List Value) → map kind_of st ≡ ks ++ u → Took ks u st acc
takes_all [] u st acc e = record { args = acc; left = st; takes_them = refl; kinds_left = e; kinds_args = refl; whole = refl }
takes_all (k ∷ ks) u [] acc e = cc
takes_all (k ∷ ks) u (v ∷ st) acc e =
    let q : kind_of v ≡ k = cc in
    let t = takes_all ks u st (v ∷ acc) (let m : map kind_of st ≡ ks ++ u = cc in m) in
    record {
      args = t.args;
      left = t.left;
      takes_them = ap (λ b. cond b (takes ks st (v ∷ acc)) None) (ap (λ l. is_kind l v) (sym q) ∙ is_kind_lem v) ∙ t.takes_them;
      kinds_left = t.kinds_left;
      kinds_args = t.kinds_args ∙ ap (λ l. reverse ks ++ (l ∷ map kind_of acc)) q ∙ regroup k ks (map kind_of acc);
      whole = sym (regroup_values v acc st) ∙ t.whole;
    }

-- the arguments of a call
pub record Given (g : Signature) (u : List Kind) (st : List Value) : Type 0 where
  pub args : List Value
  pub left : List Value
  pub takes_them : arguments g st ≡ Some (record { values = args; left = left })
  pub kinds_left : map kind_of left ≡ u
  pub kinds_args : map kind_of args ≡ g.arguments
  pub whole : st ≡ reverse args ++ left

pub given : (g : Signature) (u : List Kind) (st : List Value) → map kind_of st ≡ reverse g.arguments ++ u → Given g u st
given g u st e =
    let t = takes_all (reverse g.arguments) u st [] e in
    record {
      args = t.args;
      left = t.left;
      takes_them = t.takes_them;
      kinds_left = t.kinds_left;
      kinds_args = t.kinds_args ∙ append-nil (reverse (reverse g.arguments)) ∙ reverse-reverse g.arguments;
      whole = t.whole;
    }

-- ## What a host is told fits what it signs

is_of_lem : (v : Value) → is_of (kind_of v) (argument_of v) ≡ true
is_of_lem (word n) = refl
is_of_lem (reference null) = refl
is_of_lem (reference r) = refl

pub arguments_fit : (args : List Value) → fits (map kind_of args) (map argument_of args) ≡ true
arguments_fit [] = refl
arguments_fit (v ∷ args) =
    ap (λ b. b && fits (map kind_of args) (map argument_of args)) (is_of_lem v) ∙ arguments_fit args

pub count_references_lem : (args : List Value) → count_references (map argument_of args) ≡ length (references args)
count_references_lem [] = refl
count_references_lem (word n ∷ args) = count_references_lem args
count_references_lem (reference null ∷ args) = ap suc (count_references_lem args)
count_references_lem (reference r ∷ args) = ap suc (count_references_lem args)
