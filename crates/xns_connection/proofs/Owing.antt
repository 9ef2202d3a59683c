-- What a connection owes its peer is owed until it is given.
use Rattle.std.proofs.Common.{◌≡◌, ◌∙◌, ap, sym, ℕ, ◌-◌, Bool, true, false, List, Option, None, arith}
use Rattle.std.specs.Prelude.{◌||◌, if◌then◌else◌}
use Rattle.xns_spp.specs.Held.{Held, StandsFor}
use Rattle.xns_spp.specs.Sending.{waiting_count}
use Rattle.xns_spp.specs.State.{State}
use Rattle.xns_spp.specs.Telling.{told_answer}
use Rattle.xns_connection.specs.Telling.{OwesRoom, word_answer}
use Rattle.xns_connection.specs.declared.owed.Owed.{Owed}

-- the packet that is given where one is owed
pub asked_given : (o : Owed) (s : State) (p : Option (List ℕ)) → o.asks ≡ true → p ≡ told_answer s o.asks → p ≡ word_answer o s
asked_given o s p owed is = is ∙ ap (λ (b : Bool). if b || o.word then told_answer s o.asks else None) (sym owed)

word_by : (asks word : Bool) (x p : Option (List ℕ)) → word ≡ true → p ≡ x → p ≡ (if asks || word then x else None)
word_by true word x p owed is = is
word_by false true x p owed is = is
word_by false false x p owed is = absurd (cc)

pub word_given : (o : Owed) (s : State) (p : Option (List ℕ)) → o.word ≡ true → p ≡ told_answer s o.asks → p ≡ word_answer o s
word_given o s p owed is = word_by o.asks o.word (told_answer s o.asks) p owed is

-- no word is owed, and none is given
pub no_word_given : (o : Owed) (s : State) → o.asks ≡ false → o.word ≡ false → None ≡ word_answer o s
no_word_given o s silent none = ap (λ (b : Bool). if b || false then told_answer s o.asks else None) (sym silent)
    ∙ ap (λ (b : Bool). if o.asks || b then told_answer s o.asks else None) (sym none)

waits_at : (e : Held) (s : State) → StandsFor e s → e.numbers.taken - e.numbers.handed ≡ waiting_count s
waits_at e s stands = ap (λ (x : Held). x.numbers.taken - x.numbers.handed) stands.holds

-- as many items wait at an end as its history says
pub same_room : (e f : Held) (word : Bool) → f ≡ e → OwesRoom e f word
same_room e f word same = λ s v old new fewer.
    let here : waiting_count v ≡ waiting_count s = sym (waits_at f v new) ∙ ap (λ (x : Held). x.numbers.taken - x.numbers.handed) same ∙ waits_at e s old in
    absurd (omega (arith, here, fewer))
