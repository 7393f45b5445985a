-- The code's limits are the format's.
use Rattle.format.specs.Limits.{fewest_servers_limit, most_servers_limit, least_quota_limit, most_quota_limit, most_payload_limit, most_index_limit, most_number_limit, most_length_limit}
use Rattle.record.specs.declared.range.Limits.{Limits}

unfoldable pub the_limits : Limits
the_limits = record {
  fewest_servers = fewest_servers_limit;
  most_servers = most_servers_limit;
  least_quota = least_quota_limit;
  most_quota = most_quota_limit;
  most_payload = most_payload_limit;
  most_index = most_index_limit;
  most_number = most_number_limit;
  most_length = most_length_limit;
}
