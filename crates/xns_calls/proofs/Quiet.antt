-- The texts that do not have the word `refused`, and those that do.
use Rattle.std.proofs.Common.{◌≡◌, refl, subst, ℕ, zero, suc, ◌-◌, ◌*◌, ◌/◌, ◌%◌, Bool, true, false, cond, List, [], ◌++◌, codes, Option, Some, None}
use Rattle.std.specs.Prelude.{nat_lt}
use Rattle.courier_messages.specs.declared.message.Message.{Message}
use Rattle.courier_messages.specs.declared.message.Message.TheVariants.{Call, Reject, Return, Abort}
use Rattle.courier_messages.specs.declared.fault.SessionFault.{SessionFault}
use Rattle.xns_idp.specs.Packet.{PacketModel}
use Rattle.xns_idp.specs.declared.address.Address.{Address}
use Rattle.xns_spp.specs.declared.header.Header.{Header}
use Rattle.xns_dump.specs.Laws.{IsLoud, SaysNoRefusal, JoinedTextsSayRefused, OnlyRefusalsSayRefused}
use Rattle.std.specs.Fmt.{decimal}
use Rattle.xns_dump.specs.Layers.Courier.{callee_text}
use Rattle.xns_calls.specs.Repeats.{repeats_text}
use Rattle.xns_calls.specs.Naming.{Programs, named_abort, named_call, named_return}
use Rattle.xns_calls.specs.Telling.{answer_line, call_line, asked_call, message_line}
use Rattle.xns_calls.specs.Texts.{answer_end, answer_front, call_end, call_front, end_text, flow_line, heading_text, line_or_dash, missing_line, refused_line, repeats_line, words_behind}
use Rattle.xns_calls.specs.Unanswered.{UnansweredCalls}
use Rattle.xns_calls.specs.declared.heading.Heading.{Heading}
use Rattle.xns_calls.specs.TimeTexts.{digits_text, fraction_text, from_to_text, seconds_text, time_text, took, took_since, took_text}
use Rattle.xns_calls.specs.declared.origin.ShownTime.{ShownTime}
use Rattle.xns_calls.specs.declared.origin.ShownTime.TheVariants as shown
use Rattle.xns_calls.specs.declared.waiting.Waiting.{Waiting}

pub cases : {A : Type 0} (P : A → Type 0) (p : Bool) (x y : A) → P x → P y → P (cond p x y)
cases P true x y h k = h
cases P false x y h k = k

-- a line of the output that names nothing
abbrev pub IsPlain : Heading → Type 0
IsPlain h = h.origin.programs ≡ None

module _ (joined : JoinedTextsSayRefused) (only : OnlyRefusalsSayRefused) where
  -- ---- the texts

  digits_are : (digits b : ℕ) → SaysNoRefusal (digits_text digits b)
  digits_are zero b = record { skips = λ ys. refl }
  digits_are (suc digits) b = joined.quiet _ _ (only.number (b / 100000000)) (digits_are digits (b % 100000000 * 10))

  fraction_is : (digits b : ℕ) → SaysNoRefusal (fraction_text digits b)
  fraction_is zero b = record { skips = λ ys. refl }
  fraction_is (suc digits) b = joined.quiet (codes ".") _ (record { skips = λ ys. refl }) (digits_are (suc digits) b)

  seconds_are : (digits ns : ℕ) → SaysNoRefusal (seconds_text digits ns)
  seconds_are digits ns = joined.quiet _ _ (only.number (ns / 1000000000)) (fraction_is digits (ns % 1000000000))

  from_to_is : (digits from to : ℕ) → SaysNoRefusal (from_to_text digits from to)
  unfolding from_to_text
  from_to_is digits from to =
      cases SaysNoRefusal (nat_lt to from) (codes "-" ++ seconds_text digits (from - to)) (seconds_text digits (to - from))
      (joined.quiet (codes "-") _ (record { skips = λ ys. refl }) (seconds_are digits (from - to))) (seconds_are digits (to - from))

  -- a time never begins the word
  pub time_is : (time : ShownTime) → SaysNoRefusal (time_text time)
  unfolding time_text
  time_is shown.Hidden = record { skips = λ ys. refl }
  time_is shown.Unknown = record { skips = λ ys. refl }
  time_is (shown.Known ns since digits) = joined.quiet _ _ (from_to_is digits since ns) (record { skips = λ ys. refl })

  took_since_is : (call answer : ShownTime) → SaysNoRefusal (took_since call answer)
  took_since_is shown.Hidden answer = record { skips = λ ys. refl }
  took_since_is shown.Unknown answer = record { skips = λ ys. refl }
  took_since_is (shown.Known from since digits) shown.Hidden = record { skips = λ ys. refl }
  took_since_is (shown.Known from since digits) shown.Unknown = record { skips = λ ys. refl }
  took_since_is (shown.Known from since digits) (shown.Known to since' digits') = from_to_is digits' from to

  how_long_is : (o : Option Waiting) (time : ShownTime) → SaysNoRefusal (took o time)
  how_long_is None time = record { skips = λ ys. refl }
  how_long_is (Some waiting) time = took_since_is waiting.time time

  took_is : (o : Option Waiting) (time : ShownTime) → SaysNoRefusal (took_text o time)
  unfolding took_text
  took_is o shown.Hidden = record { skips = λ ys. refl }
  took_is o shown.Unknown = joined.quiet (codes " took ") _ (record { skips = λ ys. refl }) (how_long_is o shown.Unknown)
  took_is o (shown.Known ns since digits) = joined.quiet (codes " took ") _ (record { skips = λ ys. refl }) (how_long_is o (shown.Known ns since digits))

  heading_is : (h : Heading) → SaysNoRefusal (heading_text h)
  unfolding heading_text
  heading_is h = joined.quiet _ _ (joined.quiet _ _ (joined.quiet _ _ (joined.quiet _ _ (time_is h.origin.time) (only.number h.origin.number)) (record { skips = λ ys. refl })) (only.number h.connection)) (cases SaysNoRefusal h.is_behind (codes "b") (codes "a") (record { skips = λ ys. refl }) (record { skips = λ ys. refl }))

  end_is : (name : List ℕ) (a : Address) (i : ℕ) → SaysNoRefusal name → SaysNoRefusal (end_text name a i)
  unfolding end_text
  end_is name a i h = joined.quiet _ _ (joined.quiet _ _ (joined.quiet name _ h (only.address a)) (record { skips = λ ys. refl })) (only.word i)

  pub flow_is : (h : Heading) (p : PacketModel) (f : Header) → SaysNoRefusal (flow_line h p f)
  unfolding flow_line
  flow_is h p f = joined.quiet _ _ (joined.quiet _ _ (joined.quiet _ _ (heading_is h) (end_is _ p.target f.target_id (record { skips = λ ys. refl }))) (end_is _ p.source f.source_id (record { skips = λ ys. refl }))) (record { skips = λ ys. refl })

  pub missing_is : (h : Heading) (a b : ℕ) → SaysNoRefusal (missing_line h a b)
  unfolding missing_line
  missing_is h a b = joined.quiet _ _ (joined.quiet _ _ (joined.quiet _ _ (heading_is h) (joined.quiet (codes " missing ") _ (record { skips = λ ys. refl }) (only.number a))) (joined.quiet (codes " to ") _ (record { skips = λ ys. refl }) (only.number (b - 1)))) (record { skips = λ ys. refl })

  pub repeats_are : (h : Heading) (p : Bool) → SaysNoRefusal (repeats_text h p)
  unfolding repeats_line
  repeats_are h p = cases SaysNoRefusal p (repeats_line h) [] (joined.quiet _ _ (heading_is h) (record { skips = λ ys. refl })) (record { skips = λ ys. refl })

  words_are : (name ws : List ℕ) → SaysNoRefusal name → SaysNoRefusal (words_behind name ws)
  words_are name ws h = joined.quiet name _ h (only.words ws)

  front_is : (h : Heading) (t : ℕ) → SaysNoRefusal (call_front h t)
  unfolding call_front
  front_is h t = joined.quiet _ _ (heading_is h) (joined.quiet (codes " call ") _ (record { skips = λ ys. refl }) (only.number t))

  plain_end_is : SaysNoRefusal (call_end None)
  unfolding call_end
  plain_end_is = record { skips = λ ys. refl }

  end_took_is : (o : Option Waiting) (time : ShownTime) → SaysNoRefusal (answer_end o time None)
  unfolding answer_end
  end_took_is o time = joined.quiet _ _ (joined.quiet _ _ (took_is o time) (record { skips = λ ys. refl })) (record { skips = λ ys. refl })

  dash_is : (o : Option Waiting) → SaysNoRefusal (line_or_dash o)
  dash_is (Some waiting) = only.number waiting.number
  dash_is None = record { skips = λ ys. refl }

  answer_is : (h : Heading) (name : List ℕ) (t : ℕ) (o : Option Waiting) → SaysNoRefusal name → SaysNoRefusal (answer_front h name t o)
  unfolding answer_front
  answer_is h name t o q = joined.quiet _ _ (joined.quiet _ _ (joined.quiet _ _ (heading_is h) (joined.quiet name _ q (only.number t))) (record { skips = λ ys. refl })) (dash_is o)

  call_line_is : (h : Heading) (t : ℕ) (numbers : List ℕ) → SaysNoRefusal numbers → SaysNoRefusal (call_line h t numbers None)
  call_line_is h t numbers q = joined.quiet _ _ (joined.quiet _ _ (front_is h t) q) plain_end_is

  answer_line_is : (h : Heading) (name : List ℕ) (t : ℕ) (o : Option Waiting) (numbers : List ℕ) → SaysNoRefusal name → SaysNoRefusal numbers → SaysNoRefusal (answer_line h name t o numbers None)
  answer_line_is h name t o numbers n q = joined.quiet _ _ (joined.quiet _ _ (answer_is h name t o n) q) (end_took_is o h.origin.time)

  -- without programs nothing is named
  call_unnamed : (programs : Programs) → programs ≡ None → (p v q : ℕ) (ws : List ℕ) → None ≡ named_call programs p v q ws
  call_unnamed None none p v q ws = refl
  call_unnamed (Some x) none p v q ws = (cc)

  return_unnamed : (programs : Programs) → programs ≡ None → (o : Option Waiting) (ws : List ℕ) → None ≡ named_return programs o ws
  return_unnamed None none o ws = refl
  return_unnamed (Some x) none o ws = (cc)

  abort_unnamed : (programs : Programs) → programs ≡ None → (o : Option Waiting) (error : ℕ) (ws : List ℕ) → None ≡ named_abort programs o error ws
  abort_unnamed None none o error ws = refl
  abort_unnamed (Some x) none o error ws = (cc)

  error_is : (kind name : List ℕ) (n : ℕ) (ws : List ℕ) → SaysNoRefusal kind → SaysNoRefusal name → SaysNoRefusal (kind ++ decimal n ++ words_behind name ws)
  error_is kind name n ws h k = joined.quiet _ _ (joined.quiet kind _ h (only.number n)) (words_are name ws k)

  pub message_is : (h : Heading) (plain : IsPlain h) (calls : UnansweredCalls) (m : Message) → SaysNoRefusal (message_line h calls m)
  message_is h plain calls (Call t p v q ws) =
      let numbers = callee_text p v q ++ words_behind (codes " args ") ws in
      subst (λ shown. SaysNoRefusal (call_line h t numbers shown)) (call_unnamed h.origin.programs plain p v q ws)
      (call_line_is h t numbers (joined.quiet _ _ (only.callee p v q) (words_are (codes " args ") ws (record { skips = λ ys. refl }))))
  message_is h plain calls (Reject t reason ws) =
      answer_line_is h (codes " reject ") t (asked_call calls.asked t) _ (record { skips = λ ys. refl })
      (error_is (codes " reason ") (codes " words ") reason ws (record { skips = λ ys. refl }) (record { skips = λ ys. refl }))
  message_is h plain calls (Return t ws) =
      let of = asked_call calls.asked t in
      let numbers = words_behind (codes " results ") ws in
      subst (λ shown. SaysNoRefusal (answer_line h (codes " return ") t of numbers shown)) (return_unnamed h.origin.programs plain of ws)
      (answer_line_is h (codes " return ") t of numbers (record { skips = λ ys. refl }) (words_are (codes " results ") ws (record { skips = λ ys. refl })))
  message_is h plain calls (Abort t error ws) =
      let of = asked_call calls.asked t in
      let numbers = codes " error " ++ decimal error ++ words_behind (codes " args ") ws in
      subst (λ shown. SaysNoRefusal (answer_line h (codes " abort ") t of numbers shown)) (abort_unnamed h.origin.programs plain of error ws)
      (answer_line_is h (codes " abort ") t of numbers (record { skips = λ ys. refl })
      (error_is (codes " error ") (codes " args ") error ws (record { skips = λ ys. refl }) (record { skips = λ ys. refl })))

  pub refused_is : (h : Heading) (fault : SessionFault) → IsLoud (refused_line h fault)
  unfolding refused_line
  refused_is h fault = joined.loud_before _ _ (joined.loud_before _ _ (joined.loud_behind _ _ (heading_is h) (record { says = λ ys. refl })))
