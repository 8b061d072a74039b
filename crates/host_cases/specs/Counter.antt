-- A host that adds up the words that it is given.
use Rattle.std.specs.Prelude.{◌≡◌, ℕ, ◌+◌, ◌%◌, ◌^◌, Bool, true, false, cond, List, [], ◌∷◌, Some, None, Option, ◌==◌, refl}
use Rattle.std.proofs.Common.{subst, ap, arith}
use Rattle.bytecode.specs.Program.{Signature}
use Rattle.bytecode.specs.declared.kind.Kind.TheVariants.{Word}
use Rattle.host.specs.declared.call.Argument.{Argument}
use Rattle.host.specs.declared.call.Reply.{Reply}
use Rattle.host.specs.Hosts.{Host, Call, Lawful, Suits, fitting, references, stop_with}
use Rattle.host.specs.Arguments.{takes, one_word}
use Rattle.host.specs.Lawfulness.{not_one_word}

-- 7 add(w) → w answers the sum so far, wrapped at 32 bits
abbrev pub counter_signs : ℕ → Option Signature
counter_signs i = cond (i == 7) (takes (Word ∷ []) Word) None

abbrev pub sum : ℕ → ℕ → ℕ
sum s w = (s + w) % 2 ^ 32

abbrev pub adding : Call → Option ℕ
adding call = cond (call.index == 7) (one_word call.arguments) None

abbrev pub counter_replies : ℕ → Option ℕ → Reply
counter_replies s None = stop_with 0
counter_replies s (Some w) = Reply.Word (sum s w)

abbrev pub counter_becomes : ℕ → Option ℕ → ℕ
counter_becomes s None = s
counter_becomes s (Some w) = sum s w

abbrev pub counter_host : Host ℕ
counter_host = record { signs = counter_signs; replies = λ s call. counter_replies s (adding call); becomes = λ s call. counter_becomes s (adding call) }

-- ## It keeps the laws

replies_suit : (s : ℕ) (w : Option ℕ) (n : ℕ) → Suits Word n (counter_replies s w)
replies_suit s None n = Suits.stop
replies_suit s (Some w) n = Suits.word (omega arith)

gives_word : (a : Bool) (g : Signature) → cond a (takes (Word ∷ []) Word) None ≡ Some g → Word ≡ g.result
gives_word true g e = cc
gives_word false g e = cc

adds_nothing : (a : Bool) (given : List Argument) → fitting (cond a (takes (Word ∷ []) Word) None) given ≡ false → cond a (one_word given) None ≡ None
adds_nothing true given e = not_one_word given e
adds_nothing false given e = refl

pub counter_lawful : Lawful counter_host
counter_lawful = record {
  suits = λ s call g signed fit. subst (λ k. Suits k (references call.arguments) (counter_replies s (adding call)))
      (gives_word (call.index == 7) g signed) (replies_suit s (adding call) _);
  misfit = λ s call e. ap (counter_replies s) (adds_nothing (call.index == 7) call.arguments e);
  keeps = λ s call e. ap (counter_becomes s) (adds_nothing (call.index == 7) call.arguments e);
}
