-- Laws of a message that is put: its four numbers of place and then those of its view are an element's; and by the case of its kind.
use Rattle.std.specs.Prelude.{Ok}
use Prim.Native.Nat.{ℕ, ◌+◌, ◌*◌, ◌≤◌}
use mathlib.Core.Path.{◌≡◌, refl, sym, ap, ◌∙◌, subst}
use mathlib.Core.List.{List, [], ◌∷◌, ◌++◌}
use mathlib.Core.Bool.{Bool, true, false}
use native.Mathlib.Omega.{arith}
use lib.ListN.{length, length-append}
use borrow.Author.Tests.{le-leb}
use Rattle.fields.specs.declared.part.Part.{Part}
use Rattle.elements.specs.declared.element.Element.{Element}
use Rattle.elements.specs.Element.{item_of}
use Rattle.kinds.specs.declared.state.Loose.{Loose}
use Rattle.kinds.specs.Loose.{viewed_as}
use Rattle.answers.specs.Words.{filled_at}
use Rattle.answers.proofs.laws.Words.{put-inside, put-behind}
use Rattle.layouts.specs.Element.{kind_word, own_words}
use Rattle.walk_calls.specs.Fills.{PutWhere, MessagePut}
use Rattle.walk_calls.proofs.laws.Steps.{put_small}

-- numbers, and more behind them, are all of them where there is room
pub both-put : (out : List ℕ) (at : ℕ) (ws more : List ℕ) {mid after : List ℕ} → at + (8 * length ws + 8 * length more) ≤ length out → length mid ≡ length out → mid ≡ filled_at out at ws → after ≡ filled_at mid (at + 8 * length ws) more
    → after ≡ filled_at out at (ws ++ more)
both-put out at ws more {mid} h same e g =
    let all : at + 8 * length (ws ++ more) ≤ length out = omega (arith, length-append ws more) in
    put-behind out at ws more (omega arith) e (put-inside mid (at + 8 * length ws) more (omega arith) g)
    ∙ sym (rw (le-leb (at + 8 * length (ws ++ more)) (length out) all))

module _ (s : List ℕ) (full : Bool) (kind : Loose) (group : ℕ) (message : Part) (out : List ℕ) (at : ℕ) where
  -- the numbers of the place and those of the view, one behind the other, are the element's
  pub message-put : (e : Element) {ws mid after : List ℕ} → viewed_as full kind s message ≡ Ok (item_of s e) → at + 208 ≤ length out → length mid ≡ length out
      → mid ≡ filled_at out at (kind_word e ∷ group ∷ message.start ∷ message.len ∷ []) → ws ≡ own_words e → after ≡ filled_at mid (at + 32) ws → MessagePut s full kind group message out at true after
  message-put e {ws} {mid} k room same head own put =
      let small = put_small (record { group = group; message = message; element = e }) in
      record { by = (e, (k, both-put out at (kind_word e ∷ group ∷ message.start ∷ message.len ∷ []) (own_words e) (omega (arith, room, small)) same head (put ∙ ap (filled_at mid (at + 32)) own))) }

  pub no-message : MessagePut s full kind group message out at false out
  no-message = record { by = refl }

  -- by whether it was put
  pub message-there : {yes : Bool} {after : List ℕ} → MessagePut s full kind group message out at yes after → yes ≡ true → PutWhere s full kind group message out at true after
  message-there {after = after} p e = subst (λ (b : Bool). PutWhere s full kind group message out at b after) e p.by

  pub none-there : {yes : Bool} {after : List ℕ} → MessagePut s full kind group message out at yes after → yes ≡ false → after ≡ out
  none-there {after = after} p e = subst (λ (b : Bool). PutWhere s full kind group message out at b after) e p.by

-- by the case of the kind
pub put_as : {s : List ℕ} {full : Bool} {kind known : Loose} {group : ℕ} {message : Part} {out : List ℕ} {at : ℕ} {yes : Bool} {after : List ℕ} → kind ≡ known → MessagePut s full known group message out at yes after
    → MessagePut s full kind group message out at yes after
put_as {s} {full} {group = group} {message} {out} {at} {yes} {after} e p = subst (λ (k : Loose). MessagePut s full k group message out at yes after) (sym e) p
