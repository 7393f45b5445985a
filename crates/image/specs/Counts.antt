-- The counts of a state's buffer by name, and where its sections begin.
use Rattle.std.specs.Prelude.{ℕ, ◌+◌, ◌*◌, ◌≤◌, List, length}
use Rattle.base.specs.Bytes.{number_at}
use Rattle.format.specs.Limits.{most_ids, most_number_limit}
use Rattle.format.specs.Places.{cut_size, id_size}
use Rattle.image.specs.Layout.{at_queue_length, at_green_count, at_numbered, at_own_count, at_sent, at_yellow_count}
use Rattle.image.specs.Layout.{SizesIn, header_size, noted_size, slot_size, the_noted, the_yellow, the_own, the_queue, offset, state_length}
use Rattle.image.specs.Decode.{servers_in, quota_in}

abbrev pub queue_count : List ℕ → ℕ
queue_count b = number_at 4 b at_queue_length

abbrev pub green_count : List ℕ → ℕ
green_count b = number_at 4 b at_green_count

abbrev pub numbered_in : List ℕ → ℕ
numbered_in b = number_at 2 b at_numbered

abbrev pub own_count_of : List ℕ → ℕ
own_count_of b = number_at 2 b at_own_count

abbrev pub sent_in : List ℕ → ℕ
sent_in b = number_at 2 b at_sent

abbrev pub yellow_count : List ℕ → ℕ
yellow_count b = number_at 2 b at_yellow_count

-- Where the section k begins.
unfoldable pub place : ℕ → List ℕ → ℕ
place k b = offset (servers_in b) (quota_in b) k

-- How many actions there can be.
abbrev pub most_actions : List ℕ → ℕ
most_actions b = servers_in b * quota_in b

-- The counts are in range, and the sections lie one behind the other inside the buffer: behind the last entry of each list is room for one more.
pub record CountsIn (b : List ℕ) : Type 0 where
  pub sizes : SizesIn (servers_in b) (quota_in b)
  pub some : 1 ≤ most_actions b
  pub most : most_actions b ≤ most_ids
  pub long : state_length (servers_in b) (quota_in b) ≤ length b
  pub cuts : header_size + cut_size * servers_in b ≤ length b
  pub noted_end : place the_noted b + noted_size * servers_in b ≤ place the_yellow b
  pub yellow_end : place the_yellow b + id_size * most_actions b ≤ place the_own b
  pub own_end : place the_own b + slot_size * quota_in b ≤ place the_queue b
  pub queue_end : place the_queue b + slot_size * most_actions b ≤ length b
  pub queue : queue_count b ≤ most_actions b
  pub green : green_count b ≤ queue_count b
  pub numbered : numbered_in b ≤ most_number_limit
  pub own : own_count_of b ≤ quota_in b
  pub sent : sent_in b ≤ numbered_in b
  pub yellow : yellow_count b ≤ most_actions b
