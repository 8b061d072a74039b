-- A search for the first 00 finds where a text ends.
use Rattle.std.proofs.Common.{◌≡◌, ℕ, ◌≤◌, Bool, true, false, cond, List, length, take, ◌==◌, nat_lt, Some, None, Option, refl, ap, ◌∙◌, arith}
use borrow.Author.Tests.{ltb-false}
use Rattle.std.specs.Option.{unwrap_or}
use Rattle.std.specs.List.{position_or_len, slice_range}
use Rattle.std.proofs.lemmas.List.Sums.{prefix_len-le-length}
use Rattle.std.proofs.lemmas.Slice.{between_to_end}
use Rattle.host.specs.Hosts.{Text, text_at}

abbrev pub end : List ℕ → ℕ
end bytes = position_or_len (λ b. b == 0) bytes

size_is : (b : Bool) (n len size : ℕ) (found : Option ℕ) → nat_lt n len ≡ b → n ≤ len → found ≡ cond b (Some n) None → size ≡ unwrap_or found len → size ≡ n
size_is true n len size found e le f u = cc
size_is false n len size found e le f u = let all : len ≤ n = ltb-false n len e in let s : size ≡ len = cc in omega arith

abbrev told : List ℕ → Text
told bytes = record { bytes = bytes }

pub text_found : (strings rest : List ℕ) (position size : ℕ) (found : Option ℕ) → rest ≡ slice_range strings position (length strings) →
    found ≡ cond (nat_lt (end rest) (length rest)) (Some (end rest)) None → size ≡ unwrap_or found (length rest) →
    record { bytes = take size rest } ≡ text_at strings position
text_found strings rest position size found r f u =
    let whole = r ∙ between_to_end strings position (length strings) (omega arith) in
    let s = size_is (nat_lt (end rest) (length rest)) (end rest) (length rest) size found refl (prefix_len-le-length _ rest) f u in
    ap told (ap (λ n. take n rest) s ∙ ap (λ bytes. take (end bytes) bytes) whole)
