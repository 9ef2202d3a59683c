-- What a cutter has cut, as it takes more, and where it stops.
use Rattle.std.proofs.Common.{◌≡◌, ◌∙◌, ap, sym, refl, arith, ℕ, ◌+◌, ◌<◌, ◌≤◌, ◌||◌, false, List, [], ◌∷◌, ◌++◌, length, length-append, append_assoc, append-nil, subst, Option, Some, None}
use Rattle.std.specs.List.{list_any}
use Rattle.std.specs.Prelude.{IfSome}
use Rattle.std.specs.Io.KnownBytes.{Consumes, IsAtEnd}
use Rattle.std.proofs.lemmas.List.Folds.{list_any-append}
use Rattle.std.proofs.Math.Bool.{or-false}
use Rattle.xns_lines.specs.Lines.Cutter.{HasCut, HasNoNewline, HasTaken, IsCutShort, IsJustifiedAt, StandsAfter, StandsAfterLine, IsOwn, Says, StopsShort}
use Rattle.xns_lines.specs.Faults.{IsJustified}
use Rattle.xns_lines.specs.Lines.{AreWithinLimits, IsWithinLimits, closed_lines, is_long, line_if_any, lines_of, open_line, most_line_bytes}
use Rattle.xns_lines.specs.declared.cutter.Cutter.{Cutter}
use Rattle.xns_lines.specs.declared.fault.RunFault.{RunFault}
use Rattle.xns_lines.specs.declared.fault.RunFault.TheVariants as fault
use Rattle.xns_lines.proofs.AtFirst.{no_lines}
use Rattle.xns_lines.proofs.Cuts.{all_lines, all_within, closed-newline, closed-nothing, closed-run, few_closed, few_more, line_count-parts, lines_of-append, long_stays, more_line, no_line, not_long, one_line, open-newline, open-nothing, open-run}
use Rattle.xns_lines.proofs.Writes.{consumes_trans}

module _ (most : ℕ) where
  pub cut_nothing : (c : Cutter) → c.most ≡ most → c.line.items ≡ [] → c.count ≡ 0 → HasCut most c []
  cut_nothing c limit line count =
      let closed = closed-nothing in
      let rest = open-nothing in
      record {
        limit = limit;
        line = line ∙ sym rest;
        count = count ∙ sym (ap length closed);
        closed_short = ap (list_any is_long) closed;
        open_short = rw rest (omega arith);
        few = rw (line_count-parts [], closed, rest) (omega arith);
      }

  -- so many lines are over, and neither they nor the open line are too long
  record IsShort (count : ℕ) (taken : List ℕ) : Type 0 where
    count_is : count ≡ length (closed_lines taken)
    closed_short : list_any is_long (closed_lines taken) ≡ false
    open_short : length (open_line taken) ≤ most_line_bytes

  short_cut : (c : Cutter) (taken : List ℕ) → HasCut most c taken → IsShort c.count taken
  short_cut c taken h = record { count_is = h.count; closed_short = h.closed_short; open_short = h.open_short }

  short_newline : (n : ℕ) (taken : List ℕ) → IsShort n taken → list_any is_long (closed_lines taken ++ open_line taken ∷ []) ≡ false
  short_newline n taken h =
      list_any-append is_long (closed_lines taken) (open_line taken ∷ [])
      ∙ ap (λ r. r || (is_long (open_line taken) || false)) h.closed_short
      ∙ or-false (is_long (open_line taken)) ∙ not_long (length (open_line taken)) h.open_short

  cut_end : (c' : Cutter) (n : ℕ) (taken : List ℕ) → n < most → c'.most ≡ most → c'.line.items ≡ [] → c'.count ≡ n + 1 → IsShort n taken → HasCut most c' (taken ++ 10 ∷ [])
  cut_end c' n taken small limit line count h =
      let closed = closed-newline taken in
      let rest = open-newline taken in
      let size : length (closed_lines taken ++ open_line taken ∷ []) ≡ length (closed_lines taken) + 1 = length-append (closed_lines taken) (open_line taken ∷ []) in
      record {
        limit = limit;
        line = line ∙ sym rest;
        count = count ∙ ap (λ n. n + 1) h.count_is ∙ sym size ∙ sym (ap length closed);
        closed_short = ap (list_any is_long) closed ∙ short_newline n taken h;
        open_short = rw rest (omega arith);
        few = rw (line_count-parts (taken ++ 10 ∷ []), closed, rest, size) (omega (arith, small, h.count_is));
      }

  -- a line may come
  few_still : (c : Cutter) (taken : List ℕ) → c.count < c.most → HasCut most c taken → c.count < most
  few_still c taken small h = omega (arith, small, h.limit)

  pub cut_newline : (c c' : Cutter) (taken : List ℕ) → c.count < c.most → c'.most ≡ c.most → c'.line.items ≡ [] → c'.count ≡ c.count + 1 → HasCut most c taken → HasCut most c' (taken ++ 10 ∷ [])
  cut_newline c c' taken small limit line count h = cut_end c' c.count taken (few_still c taken small h) (limit ∙ h.limit) line count (short_cut c taken h)

  pub cut_run : (c c' : Cutter) (taken run : List ℕ) → HasNoNewline run
      → c.count < c.most → length c.line.items + length run ≤ most_line_bytes → c'.most ≡ c.most → c'.line.items ≡ c.line.items ++ run → c'.count ≡ c.count → HasCut most c taken → HasCut most c' (taken ++ run)
  cut_run c c' taken run plain small short limit line count h =
      let closed = closed-run taken run plain in
      let rest = open-run taken run plain in
      record {
        limit = limit ∙ h.limit;
        line = line ∙ ap (λ l. l ++ run) h.line ∙ sym rest;
        count = count ∙ h.count ∙ sym (ap length closed);
        closed_short = ap (list_any is_long) closed ∙ h.closed_short;
        open_short = rw rest (omega (arith, length-append (open_line taken) run, ap length h.line, short));
        few = few_more most taken (taken ++ run) (omega (arith, h.count, few_still c taken small h)) closed;
      }

  -- where nothing was taken of the line, the run is what is taken of it
  open_whole : (c : Cutter) (taken run : List ℕ) → HasNoNewline run → length c.line.items ≡ 0 → HasCut most c taken → open_line (taken ++ run) ≡ run
  open_whole c taken run plain none h = open-run taken run plain ∙ ap (λ l. l ++ run) (sym h.line ∙ no_line c.line.items none)

  short_whole : (c : Cutter) (taken run : List ℕ) → HasNoNewline run → length c.line.items ≡ 0 → length run ≤ most_line_bytes → HasCut most c taken → IsShort c.count (taken ++ run)
  short_whole c taken run plain none short h =
      let closed = closed-run taken run plain in
      record {
        count_is = h.count ∙ sym (ap length closed);
        closed_short = ap (list_any is_long) closed ∙ h.closed_short;
        open_short = rw (open_whole c taken run plain none h) short;
      }

  pub cut_whole : (c c' : Cutter) (taken run : List ℕ) → HasNoNewline run → c.count < c.most → length c.line.items ≡ 0 → length run ≤ most_line_bytes
      → c'.most ≡ c.most → c'.line.items ≡ c.line.items → c'.count ≡ c.count + 1 → HasCut most c taken → HasCut most c' ((taken ++ run) ++ 10 ∷ [])
  cut_whole c c' taken run plain small none short limit line count h = cut_end c' c.count (taken ++ run) (few_still c taken small h) (limit ∙ h.limit) (line ∙ no_line c.line.items none) count (short_whole c taken run plain none short h)

  pub run_cut : (c' : Cutter) (taken run : List ℕ) → HasNoNewline run → HasCut most c' (taken ++ run) → HasCut most c' (taken ++ run) × (closed_lines (taken ++ run) ≡ closed_lines taken)
  run_cut c' taken run plain h = (h, closed-run taken run plain)

  pub takes_run : (c c' : Cutter) (stands : Says) (taken run : List ℕ) → (HasCut most c taken → HasCut most c' (taken ++ run) × (closed_lines (taken ++ run) ≡ closed_lines taken))
      → HasTaken most c stands taken → HasTaken most c' stands (taken ++ run)
  takes_run c c' stands taken run cut h = let new = cut h.0 in (new.0, subst stands (sym new.1) h.1)

  pub cut_as : (c : Cutter) (xs ys : List ℕ) → xs ≡ ys → HasCut most c xs → HasCut most c ys
  cut_as c xs ys e h = subst (λ (zs : List ℕ). HasCut most c zs) e h

  pub takes_as : (c : Cutter) (stands : Says) (xs ys : List ℕ) → xs ≡ ys → HasTaken most c stands xs → HasTaken most c stands ys
  takes_as c stands xs ys e h = subst (λ (zs : List ℕ). HasTaken most c stands zs) e h

  pub few_lines : (c : Cutter) (taken : List ℕ) → HasCut most c taken → 0 < length c.line.items → c.count < c.most
  few_lines c taken h some =
      let lt : 0 < length (open_line taken) = omega (arith, ap length h.line) in
      let one : length (line_if_any (open_line taken)) ≡ 1 = ap length (one_line (open_line taken) lt) in
      omega (arith, h.few, h.count, h.limit, line_count-parts taken, one)

  -- ---- where it stops

  closed_within : (c : Cutter) (taken : List ℕ) → HasCut most c taken → AreWithinLimits most (closed_lines taken)
  closed_within c taken h = record { short = h.closed_short; few = few_closed most taken h.few }

  -- the lines at which the cutter itself stops are those that were over
  abbrev pub IsStill : RunFault → List ℕ → Says
  IsStill f taken lines = IsOwn f × (lines ≡ closed_lines taken)

  pub short_long : (c : Cutter) (taken run : List ℕ) → HasNoNewline run → c.count < c.most → most_line_bytes < length c.line.items + length run → HasCut most c taken
      → IsCutShort most fault.LineTooLong (taken ++ run) (IsStill fault.LineTooLong taken)
  short_long c taken run plain small long h =
      let closed = closed-run taken run plain in record {
        place = record {
          front = taken ++ run;
          more = [];
          parts = append-nil (taken ++ run);
          within = subst (AreWithinLimits most) (sym closed) (closed_within c taken h);
          found = (omega (arith, ap length closed, h.count, few_still c taken small h), omega (arith, ap length (open-run taken run plain), length-append (open_line taken) run, ap length h.line, long));
        };
        is_left = (tt, closed);
      }

  -- the cutter stopped behind what it had taken
  pub short_here : (c : Cutter) (taken more : List ℕ) (f : RunFault) → IsOwn f → IsJustifiedAt most f taken more → HasCut most c taken → IsCutShort most f (taken ++ more) (IsStill f taken)
  short_here c taken more f own found h = record {
    place = record { front = taken; more = more; parts = refl; within = closed_within c taken h; found = found };
    is_left = (own, refl);
  }

  -- as many lines are over as there may be, and more bytes come
  pub short_many : (c : Cutter) (taken more : List ℕ) → c.most ≤ c.count → 0 < length more → HasCut most c taken
      → IsCutShort most fault.TooManyLines (taken ++ more) (IsStill fault.TooManyLines taken)
  short_many c taken more many some h = short_here c taken more fault.TooManyLines tt (omega (arith, h.count, h.limit, few_closed most taken h.few, many), some) h

  own_left : (f : RunFault) (stands fails : Says) (lines : List (List ℕ)) → IsOwn f → stands lines → StandsAfter f stands fails lines
  own_left fault.Read stands fails lines own h = absurd own
  own_left fault.Write stands fails lines own h = absurd own
  own_left fault.LineTooLong stands fails lines own h = h
  own_left fault.TooManyLines stands fails lines own h = h
  own_left fault.NoMemory stands fails lines own h = h

  -- the taker is as it was
  pub short_own : (f : RunFault) (stands fails : Says) (taken xs : List ℕ) → stands (closed_lines taken) → IsCutShort most f xs (IsStill f taken) → IsCutShort most f xs (StandsAfter f stands fails)
  short_own f stands fails taken xs said h = record {
    place = h.place;
    is_left = own_left f stands fails (closed_lines h.place.front) h.is_left.0 (subst stands (sym h.is_left.1) said);
  }

  end_within : (n : ℕ) (taken : List ℕ) → n < most → IsShort n taken → AreWithinLimits most (closed_lines taken)
  end_within n taken small h = record { short = h.closed_short; few = omega (arith, small, h.count_is) }

  -- the taker stopped at the line that a byte 10 ends
  short_end : (f : RunFault) (stands fails : Says) (n : ℕ) (taken : List ℕ) → n < most → IsShort n taken → StandsAfterLine f stands fails (closed_lines taken) (open_line taken)
      → IsCutShort most f (taken ++ 10 ∷ []) (StandsAfter f stands fails)
  short_end fault.Read stands fails n taken small h at = absurd at
  short_end fault.LineTooLong stands fails n taken small h at = absurd at
  short_end fault.TooManyLines stands fails n taken small h at = absurd at
  short_end fault.NoMemory stands fails n taken small h at = record {
    place = record { front = taken; more = 10 ∷ []; parts = refl; within = end_within n taken small h; found = tt };
    is_left = at;
  }
  short_end fault.Write stands fails n taken small h at =
      let closed = closed-newline taken in
      let size : length (closed_lines taken ++ open_line taken ∷ []) ≡ length (closed_lines taken) + 1 = length-append (closed_lines taken) (open_line taken ∷ []) in
      record {
        place = record {
          front = taken ++ 10 ∷ [];
          more = [];
          parts = append-nil (taken ++ 10 ∷ []);
          within = subst (AreWithinLimits most) (sym closed) (record { short = short_newline n taken h; few = omega (arith, size, h.count_is, small) });
          found = tt;
        };
        is_left = subst fails (sym closed) at;
      }

  pub short_at : (c : Cutter) (f : RunFault) (stands fails : Says) (taken : List ℕ) → c.count < c.most → HasCut most c taken → StandsAfterLine f stands fails (closed_lines taken) (open_line taken)
      → IsCutShort most f (taken ++ 10 ∷ []) (StandsAfter f stands fails)
  short_at c f stands fails taken small h at = short_end f stands fails c.count taken (few_still c taken small h) (short_cut c taken h) at

  pub short_at_whole : (c : Cutter) (f : RunFault) (stands fails : Says) (taken run : List ℕ) → HasNoNewline run → c.count < c.most → length c.line.items ≡ 0 → length run ≤ most_line_bytes → HasCut most c taken
      → StandsAfterLine f stands fails (closed_lines taken) run → IsCutShort most f ((taken ++ run) ++ 10 ∷ []) (StandsAfter f stands fails)
  short_at_whole c f stands fails taken run plain small none short h at =
      short_end f stands fails c.count (taken ++ run) (few_still c taken small h) (short_whole c taken run plain none short h)
      (subst (λ lines. StandsAfterLine f stands fails lines (open_line (taken ++ run))) (sym (closed-run taken run plain))
      (subst (λ (l : List ℕ). StandsAfterLine f stands fails (closed_lines taken) l) (sym (open_whole c taken run plain none h)) at))

  still_found : (f : RunFault) (front more later : List ℕ) → IsJustifiedAt most f front more → IsJustifiedAt most f front (more ++ later)
  still_found fault.Read front more later found = found
  still_found fault.Write front more later found = tt
  still_found fault.LineTooLong front more later found = found
  still_found fault.TooManyLines front more later found = (found.0, omega (arith, found.1, length-append more later))
  still_found fault.NoMemory front more later found = tt

  pub short_later : (xs more ys : List ℕ) (f : RunFault) (left : Says) → xs ++ more ≡ ys → IsCutShort most f xs left → IsCutShort most f ys left
  short_later xs more ys f left e h =
      let at = h.place in record {
        place = record {
          front = at.front;
          more = at.more ++ more;
          parts = sym (append_assoc at.front at.more more) ∙ ap (λ t. t ++ more) at.parts ∙ e;
          within = at.within;
          found = still_found f at.front at.more more at.found;
        };
        is_left = h.is_left;
      }

  -- ---- what stands after the fault

  shows : (f : RunFault) (front more read : List ℕ) → front ++ more ≡ read → IsJustifiedAt most f front more → IsJustified most f read (closed_lines front) (lines_of (open_line front ++ more))
  shows fault.Read front more read parts found = absurd found
  shows fault.Write front more read parts found = tt
  shows fault.LineTooLong front more read parts found = (found.0, long_stays front more found.1)
  shows fault.TooManyLines front more read parts found = (found.0, more_line (open_line front) more found.1)
  shows fault.NoMemory front more read parts found = tt

  pub stops_short : (read : List ℕ) (f : RunFault) (left : Says) → IsCutShort most f read left → StopsShort most f read left
  stops_short read f left h =
      let at = h.place in record {
        lines = record {
          good = closed_lines at.front;
          next = lines_of (open_line at.front ++ at.more);
          joined = ap lines_of (sym at.parts) ∙ lines_of-append at.front at.more;
          within = at.within;
          justified = shows f at.front at.more read at.parts at.found;
        };
        is_left = h.is_left;
      }

  -- a run stopped behind the lines that are over
  stops_behind : (c : Cutter) (read : List ℕ) (f : RunFault) (left : Says) → HasCut most c read → IsJustified most f read (closed_lines read) (line_if_any (open_line read)) → left (closed_lines read) → StopsShort most f read left
  stops_behind c read f left h justified is_left = record {
    lines = record { good = closed_lines read; next = line_if_any (open_line read); joined = refl; within = closed_within c read h; justified = justified };
    is_left = is_left;
  }

  -- a write failed between two reads
  pub stops_pausing : (c : Cutter) (read : List ℕ) (f : RunFault) (stands fails : Says) → f ≡ fault.Write → HasCut most c read → fails (closed_lines read) → StopsShort most f read (StandsAfter f stands fails)
  stops_pausing c read f stands fails which h failed = rw which (stops_behind c read fault.Write fails h tt failed)

  -- a read failed
  pub stops_reading : (c : Cutter) (read : List ℕ) (stands : Says) → HasTaken most c stands read → StopsShort most fault.Read read stands
  stops_reading c read stands h = stops_behind c read fault.Read stands h.0 refl h.1

  -- the taker stopped at the line that the end of the input ends
  pub stops_finishing : (c : Cutter) (read : List ℕ) (f : RunFault) (stands fails : Says) → 0 < length c.line.items → HasCut most c read → StandsAfterLine f stands fails (closed_lines read) (open_line read)
      → StopsShort most f read (StandsAfter f stands fails)
  stops_finishing c read fault.Read stands fails some h at = absurd at
  stops_finishing c read fault.LineTooLong stands fails some h at = absurd at
  stops_finishing c read fault.TooManyLines stands fails some h at = absurd at
  stops_finishing c read fault.NoMemory stands fails some h at = stops_behind c read fault.NoMemory stands h tt at
  stops_finishing c read fault.Write stands fails some h at =
      let lt : 0 < length (open_line read) = omega (arith, ap length h.line) in
      record {
        lines = all_lines most fault.Write read (all_within most read h.closed_short h.open_short h.few) tt;
        is_left = subst fails (ap (λ l. closed_lines read ++ l) (sym (one_line (open_line read) lt))) at;
      }

  -- nothing was read
  pub stops_at_once : (f : RunFault) (stands fails : Says) → f ≡ fault.NoMemory → stands [] → StopsShort most f [] (StandsAfter f stands fails)
  stops_at_once f stands fails which said = rw which (record { lines = no_lines most fault.NoMemory tt; is_left = said })

  -- ---- the end of the input

  pub finished_open : (c : Cutter) (said : Says) (taken line : List ℕ) → 0 < length c.line.items → line ≡ c.line.items → HasCut most c taken → said (closed_lines taken ++ line ∷ []) → said (lines_of taken)
  finished_open c said taken line some e h at =
      let lt : 0 < length (open_line taken) = omega (arith, ap length h.line) in
      subst said (ap (λ l. closed_lines taken ++ l) (ap (λ l. l ∷ []) (e ∙ h.line) ∙ sym (one_line (open_line taken) lt))) at

  pub takes_newline : (c c' : Cutter) (said : Says) (taken line : List ℕ) → c.count < c.most → c'.most ≡ c.most → c'.line.items ≡ [] → c'.count ≡ c.count + 1 → line ≡ c.line.items → HasCut most c taken
      → said (closed_lines taken ++ line ∷ []) → HasTaken most c' said (taken ++ 10 ∷ [])
  takes_newline c c' said taken line small limit none count e h at =
      (cut_newline c c' taken small limit none count h, subst said (ap (λ l. closed_lines taken ++ l ∷ []) (e ∙ h.line) ∙ sym (closed-newline taken)) at)

  pub takes_whole : (c c' : Cutter) (said : Says) (taken run : List ℕ) → HasNoNewline run → c.count < c.most → length c.line.items ≡ 0 → length run ≤ most_line_bytes
      → c'.most ≡ c.most → c'.line.items ≡ c.line.items → c'.count ≡ c.count + 1 → HasCut most c taken → said (closed_lines taken ++ run ∷ []) → HasTaken most c' said ((taken ++ run) ++ 10 ∷ [])
  takes_whole c c' said taken run plain small none short limit line count h at = (
    cut_whole c c' taken run plain small none short limit line count h,
    subst said
        (ap (λ lines. lines ++ run ∷ []) (sym (closed-run taken run plain)) ∙ ap (λ l. closed_lines (taken ++ run) ++ l ∷ []) (sym (open_whole c taken run plain none h))
        ∙ sym (closed-newline (taken ++ run)))
        at,
  )

  pub left_as : (c : Cutter) (f : RunFault) (stands fails : Says) (taken line : List ℕ) → line ≡ c.line.items → HasCut most c taken → StandsAfterLine f stands fails (closed_lines taken) line → StandsAfterLine f stands fails (closed_lines taken) (open_line taken)
  left_as c f stands fails taken line e h at = subst (λ (l : List ℕ). StandsAfterLine f stands fails (closed_lines taken) l) (e ∙ h.line) at

  -- ---- what was read of the input

  stopped_in : (start left : Option (List ℕ)) (first : Option (List ℕ) → Type 0) (stands fails : Option (List ℕ) → Says) (f : RunFault) (read : List ℕ) → Consumes start left read
      → ((before : Option (List ℕ)) → first before → StopsShort most f read (StandsAfter f (stands before) (fails before)))
      → IfSome start (λ input. (read : List ℕ) × Consumes (Some input) left read × ((before : Option (List ℕ)) → first before → StopsShort most f read (StandsAfter f (stands before) (fails before))))
  stopped_in None left first stands fails f read x h = tt
  stopped_in (Some input) left first stands fails f read x h = (read, x, h)

  -- the taker stopped, as it says by its relations, of which `contents` gives what is written
  pub taker_stopped : {T W : Type 0} (stands fails : T → Option (List ℕ) → Option (List ℕ) → Says) (contents : W → Option (List ℕ)) (t t' : T) (w w' : W) (start left : Option (List ℕ)) (f : RunFault) (read : List ℕ)
      → Consumes start left read → ((before : Option (List ℕ)) → stands t before (contents w) [] → StopsShort most f read (StandsAfter f (stands t' before (contents w')) (fails t' before (contents w'))))
      → IfSome start (λ input. (read : List ℕ) × Consumes (Some input) left read
      × ((before : Option (List ℕ)) → stands t before (contents w) [] → StopsShort most f read (StandsAfter f (stands t' before (contents w')) (fails t' before (contents w')))))
  taker_stopped stands fails contents t t' w w' start left f read x h =
      stopped_in start left (λ before. stands t before (contents w) []) (λ before. stands t' before (contents w')) (λ before. fails t' before (contents w')) f read x h

  -- a run stopped with a piece that was read behind the others
  pub taker_stopped_with : {T W : Type 0} (stands fails : T → Option (List ℕ) → Option (List ℕ) → Says) (contents : W → Option (List ℕ)) (t t' : T) (w w' : W) (start mid left : Option (List ℕ)) (f : RunFault) (read piece : List ℕ)
      → Consumes start mid read → Consumes mid left piece
      → ((before : Option (List ℕ)) → stands t before (contents w) [] → StopsShort most f (read ++ piece) (StandsAfter f (stands t' before (contents w')) (fails t' before (contents w'))))
      → IfSome start (λ input. (read : List ℕ) × Consumes (Some input) left read
      × ((before : Option (List ℕ)) → stands t before (contents w) [] → StopsShort most f read (StandsAfter f (stands t' before (contents w')) (fails t' before (contents w')))))
  taker_stopped_with stands fails contents t t' w w' start mid left f read piece x y h = taker_stopped stands fails contents t t' w w' start left f (read ++ piece) (consumes_trans start mid left read piece x y) h

  whole_read : (input left' read bs : List ℕ) (left : List ℕ) → input ≡ read ++ left → left ≡ bs ++ left' → bs ≡ [] → left' ≡ [] → input ≡ read
  whole_read input left' read bs left x y e at_end = x ∙ ap (λ t. read ++ t) (y ∙ ap (λ t. t ++ left') e ∙ at_end) ∙ append-nil read

  pub taken_in : (start left left' : Option (List ℕ)) (first : Option (List ℕ) → Type 0) (stands : Option (List ℕ) → Says) (read bs : List ℕ) → Consumes start left read → Consumes left left' bs → bs ≡ [] → IsAtEnd left'
      → IsWithinLimits most read → ((before : Option (List ℕ)) → first before → stands before (lines_of read))
      → IfSome start (λ input. Consumes (Some input) left' input × IsWithinLimits most input × ((before : Option (List ℕ)) → first before → stands before (lines_of input)))
  taken_in None left left' first stands read bs x y e at_end within h = tt
  taken_in (Some input) None left' first stands read bs x y e at_end within h = absurd x
  taken_in (Some input) (Some l) None first stands read bs x y e at_end within h = absurd y
  taken_in (Some input) (Some l) (Some m) first stands read bs x y e at_end within h =
      let same : input ≡ read = whole_read input m read bs l x y e at_end in (
        sym (append-nil input) ∙ ap (λ t. input ++ t) (sym at_end),
        subst (IsWithinLimits most) (sym same) within,
        (λ before said. subst (λ (xs : List ℕ). stands before (lines_of xs)) (sym same) (h before said)),
      )
